-- How a refusal is printed.
use Rattle.std.specs.Prelude.{ℕ, List, [], ◌++◌, codes, decimal}
use Rattle.sk_grammar.specs.declared.fault.FaultKind.{FaultKind}
use Rattle.sk_run.specs.declared.refusal.Refusal.{Refusal}
use Rattle.sk_run.specs.declared.refusal.Refusal.TheVariants.{TooLong, NotJson, NoSchema, SchemaAgain, BadShape, BadField, NoIdLeft, NotFound, BadQuery, BadTree, InParts, TooManyOpen, NotOpen, NotDone}

-- The number that is printed behind `refused`.
abbrev pub refusal_number : Refusal → ℕ
refusal_number TooLong = 1
refusal_number NotJson = 2
refusal_number NoSchema = 3
refusal_number SchemaAgain = 4
refusal_number BadShape = 5
refusal_number BadField = 6
refusal_number NoIdLeft = 7
refusal_number NotFound = 8
refusal_number (BadQuery kind place) = 9
refusal_number BadTree = 10
refusal_number InParts = 11
refusal_number TooManyOpen = 12
refusal_number NotOpen = 13
refusal_number NotDone = 14

-- The name that is printed behind the number.
abbrev pub refusal_name : Refusal → List ℕ
refusal_name TooLong = codes "TooLong"
refusal_name NotJson = codes "NotJson"
refusal_name NoSchema = codes "NoSchema"
refusal_name SchemaAgain = codes "SchemaAgain"
refusal_name BadShape = codes "BadShape"
refusal_name BadField = codes "BadField"
refusal_name NoIdLeft = codes "NoIdLeft"
refusal_name NotFound = codes "NotFound"
refusal_name (BadQuery kind place) = codes "BadQuery"
refusal_name BadTree = codes "BadTree"
refusal_name InParts = codes "InParts"
refusal_name TooManyOpen = codes "TooManyOpen"
refusal_name NotOpen = codes "NotOpen"
refusal_name NotDone = codes "NotDone"

-- The name of a fault of a query text.
abbrev pub fault_name : FaultKind → List ℕ
fault_name FaultKind.StrayBracket = codes "StrayBracket"
fault_name FaultKind.UnclosedBracket = codes "UnclosedBracket"
fault_name FaultKind.MissingOperand = codes "MissingOperand"
fault_name FaultKind.BadNear = codes "BadNear"
fault_name FaultKind.BadRange = codes "BadRange"
fault_name FaultKind.TooDeep = codes "TooDeep"
fault_name FaultKind.TooMany = codes "TooMany"

-- What is printed behind the name: of a query text its fault, and the byte at which it stands.
abbrev pub detail_of : Refusal → List ℕ
detail_of TooLong = []
detail_of NotJson = []
detail_of NoSchema = []
detail_of SchemaAgain = []
detail_of BadShape = []
detail_of BadField = []
detail_of NoIdLeft = []
detail_of NotFound = []
detail_of (BadQuery kind place) = codes " " ++ (fault_name kind ++ (codes " at " ++ decimal place))
detail_of BadTree = []
detail_of InParts = []
detail_of TooManyOpen = []
detail_of NotOpen = []
detail_of NotDone = []

-- `refused`, the number, the name, and what stands behind it.
abbrev pub refusal_line : Refusal → List ℕ
refusal_line why = codes "refused " ++ (decimal (refusal_number why) ++ (codes " " ++ (refusal_name why ++ (detail_of why ++ codes "\n"))))
