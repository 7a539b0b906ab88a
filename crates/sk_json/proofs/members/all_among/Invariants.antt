use Rattle.std.proofs.Common.{◌≡◌, map}
use Rattle.serde_json.specs.View.{members_view}
use Rattle.sk_json.specs.Values.{all_names, is_one_of}
use Rattle.sk_json.proofs.members.all_among.Given as goal

-- the names that were passed over are among the wanted, so those that are left decide
abbrev pub invariant-members : goal.invariant-members
invariant-members l =
    all_names (is_one_of (map (λ s. s.now) l.names)) (members_view l.name-iterator)
    ≡ all_names (is_one_of (map (λ s. s.now) l.names)) (members_view l.members.entries)
