-- The documents with the ids from the place on are removed.
use Rattle.std.proofs.Common.{◌≡◌, ◌≤◌, length, drop}
use Rattle.sk_documents.specs.Removing.{without_ids}
use Rattle.sk_documents.proofs.documents.Documents.remove_each.Given as goal

abbrev pub invariant-ids : goal.invariant-ids
invariant-ids g l =
    (l.self.live ≡ record { documents = without_ids (drop l.i l.ids) l.initial.self.live.documents; highest = l.initial.self.live.highest })
    × (l.self.schema ≡ l.initial.self.schema) × (l.i ≤ length l.ids) × (g.K.Keeper.parts l.self.keeper ≡ g.K.Keeper.parts l.initial.self.keeper)

abbrev pub decreases-ids : goal.decreases-ids
decreases-ids g l = l.i
