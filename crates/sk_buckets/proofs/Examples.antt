-- Values that the definitions must have: they compute.
use Rattle.std.proofs.Common.{◌≡◌, List, [], ◌∷◌, refl}
use Rattle.sk_buckets.specs.declared.mark.Mark.{Mark}
use Rattle.sk_buckets.specs.Marks.{first_head, weight_at, greatest_of}
use Rattle.sk_buckets.specs.Dealt.{chain}

-- two lists stand at 7, one at 9, and one has ended
abbrev four : List Mark
four =
    record { head = 9; weight = 5; greatest = 8 }
    ∷ record { head = 7; weight = 2; greatest = 2 }
    ∷ record { head = 4294967296; weight = 0; greatest = 6 }
    ∷ record { head = 7; weight = 3; greatest = 4 }
    ∷ []

first_is_seven : first_head four ≡ 7
first_is_seven = refl

both_weigh : weight_at 7 four ≡ 5
both_weigh = refl

none_between : weight_at 8 four ≡ 0
none_between = refl

-- one that has ended counts too
all_can_weigh : greatest_of four ≡ 20
all_can_weigh = refl

none_stands : first_head [] ≡ 4294967296
none_stands = refl

-- from the fourth list to the second, whose own next is not asked for
two_in_chain : chain 2 (0 ∷ 3 ∷ 0 ∷ 1 ∷ []) 3 ≡ 3 ∷ 1 ∷ []
two_in_chain = refl
