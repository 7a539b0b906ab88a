-- What tokens without a fault give.
use Rattle.std.proofs.Common.{◌≡◌, false, List, [], ◌∷◌, None, refl}
use Rattle.sk_meaning.proofs.TokenLemmas.{or_none, past}
use Rattle.sk_base.specs.declared.schema.Schema.{Schema}
use Rattle.sk_base.specs.declared.find.Join.{Join}
use Rattle.sk_grammar.specs.declared.fault.FaultKind.{FaultKind}
use Rattle.sk_grammar.specs.declared.token.Kind.{Kind}
use Rattle.sk_grammar.specs.declared.token.Token.{Token}
use Rattle.sk_grammar.specs.Brackets.{no_nests}
use Rattle.sk_grammar.specs.Faults.{is_stray, is_unclosed, lacks_operand, is_bad_near, is_bad_range, fault_at, fault_behind, kinds_of}
use Rattle.sk_parser.specs.Sound.{HaveSoundRanges}
use Rattle.sk_parser.specs.Stack.{Inside, finished}

range_sound : (schema : Schema) (before : List Kind) (k : Kind) (behind : List Kind) → fault_at schema before k behind ≡ None → is_bad_range schema k ≡ false
range_sound schema before k behind e =
    let a = past (is_stray before k) FaultKind.StrayBracket _ e in
    let b = past (is_unclosed before k behind) FaultKind.UnclosedBracket _ a.1 in
    let c = past (lacks_operand before k behind) FaultKind.MissingOperand _ b.1 in
    let d = past (is_bad_near before k behind) FaultKind.BadNear _ c.1 in
    (past (is_bad_range schema k) FaultKind.BadRange _ d.1).0

-- Tokens without a fault have no range that can't be read.
pub sound_of : (schema : Schema) (before : List Kind) (ts : List Token) → fault_behind schema before ts ≡ None → HaveSoundRanges schema ts
sound_of schema before [] e = tt
sound_of schema before (t ∷ ts) e =
    let parts = or_none (fault_at schema before (Token.kind t) (kinds_of ts)) (Token.from t) (fault_behind schema (Token.kind t ∷ before) ts) e in
    (range_sound schema before (Token.kind t) (kinds_of ts) parts.0, sound_of schema (Token.kind t ∷ before) ts parts.1)

-- A bracket that is closed at the end, and one that is closed by a token there.
pub closed_end : (schema : Schema) (join : Join) (top : Inside) (below : List Inside) → finished schema join top below no_nests (no_nests ∷ []) ≡ finished schema join top below no_nests []
closed_end schema join top [] = refl
closed_end schema join top (level ∷ below) = refl
