use Rattle.std.proofs.Common.{◌≡◌, ◌++◌, drop, option_map}
use Rattle.serde_json.specs.View.{items_view}
use Rattle.sk_json.specs.Values.{texts_of}
use Rattle.sk_json.proofs.strings.texts_of.Given as goal

-- the texts so far, and those of the items that are left, are those of all
abbrev pub invariant-items : goal.invariant-items
invariant-items l = option_map (λ texts. l.texts ++ texts) (texts_of (items_view (drop l.item-index l.items))) ≡ texts_of (items_view l.items)
