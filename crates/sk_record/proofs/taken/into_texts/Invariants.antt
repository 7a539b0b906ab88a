use Rattle.std.proofs.Common.{◌≡◌, ◌++◌, option_map}
use Rattle.std.specs.Vec.Iter.{into_iter_items}
use Rattle.serde_json.specs.View.{items_view}
use Rattle.sk_json.specs.Values.{texts_of}
use Rattle.sk_record.proofs.taken.into_texts.Given as goal

-- the strings so far, and those of the items that are left, are those of all
abbrev pub invariant-items : goal.invariant-items
invariant-items l =
    (goal.iterator-items).can_next l.item-iterator
    × (goal.iterator-items).is_finite l.item-iterator
    × (option_map (λ texts. l.texts ++ texts) (texts_of (items_view (into_iter_items l.item-iterator))) ≡ texts_of (items_view l.fn.items.items))
