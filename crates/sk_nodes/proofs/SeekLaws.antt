-- How a node lands that was sought, by how what is below it was moved on.
use Rattle.std.proofs.Common.{◌≡◌, ◌≤◌, ◌<◌, ◌+◌, ◌^◌, ℕ, max, true, List, ◌++◌, length, take, drop, Some, unwrap_or, inr, refl, sym, subst, ap, ◌∙◌, Box, Vec, Global, arith}
use Rattle.std.specs.List.{IsFirstAndRest}
use Rattle.sk_base.specs.declared.find.Scheme.{Scheme}
use Rattle.sk_query.specs.declared.form.Form.{Form}
use Rattle.sk_model.specs.Combining.{where_so}
use Rattle.sk_model.specs.Covers.{Covers, first_need, second_need}
use Rattle.sk_index.specs.Indexed.{Indexed}
use Rattle.sk_decay.specs.declared.meeting.Meeting.{Meeting}
use Rattle.sk_decay.specs.Heads.{IsHead, GoesOn, GoesOnOnly, MeetsAt, MeetsBoth}
use Rattle.sk_decay.specs.Sides.{paired, greatest_under, is_led, second_target}
use Rattle.sk_nodes.specs.declared.top.Top.{Top}
use Rattle.sk_nodes.specs.declared.proximity.Proximity.{Proximity}
use Rattle.sk_nodes.specs.Accounts.{Spends}
use Rattle.sk_nodes.specs.declared.node.Node.{Node}
use Rattle.sk_nodes.specs.declared.node.Node.TheVariants as Node
use Rattle.sk_nodes.specs.declared.merge.Merge.{Merge}
use Rattle.sk_nodes.specs.Shapes.{Shape, ended, pair, xor_many, or_many, positional, synonym, gathered, Sides, side, shape_of, size_of, sides_on, sizes_in}
use Rattle.sk_nodes.specs.Left.{rest, from_on, unread_of, unread_in, greatest_sum, greatest_held}
use Rattle.sk_nodes.specs.Sound.{IsTop, IsPositional, Sound, AreSound}
use Rattle.sk_nodes.specs.Many.{AreFrom, AreSought, followed_by}
use Rattle.sk_nodes.specs.OrMany.{AreMoved, HaveLed, AreWeighed, AreEnded}
use Rattle.sk_nodes.specs.Proximity.{holds_in, entries_unread, IsInAll, IsSameTest}
use Rattle.sk_nodes.specs.Skips.{WeighsBelow}
use Rattle.sk_nodes.specs.Moved.{with_lead, WasSought, Accounts, SeekAccounts, ReachAccounts}
use Rattle.sk_nodes.proofs.NodeLaws.{parts_shape, xor_many_shape, or_many_shape, merge_shape, positional_shape, synonym_shape, sought_along, SidesSoFar, target_ended, pair_covers, pair_top, pair_top_ended, head_reached, sides_covers, sides_covers_ended, sides_more, greatest_under-mono}
use Rattle.sk_nodes.proofs.RareLaws.{meets_lead}
use Rattle.sk_nodes.proofs.MoveLaws.{seek_along, seek_some, seek_other, AccountsSoFar, accounts_then, accounts_on, round_ended, round_both}
use Rattle.sk_nodes.proofs.FadingLaws.{FadesSoFar, fades_half, fades_both, fades_on}
use Rattle.sk_nodes.proofs.SpendLaws.{spends_then, spends_first, spends_second, spends_less}
use Rattle.sk_nodes.proofs.ProximityLaws.{TestSoFar, moved_all, moved_covers, moved_ended, ended_test, passed_top, passed_sound, passed_covers, none_top, failed_ended_covers, failed_ended_sound, failed_more}
use Rattle.sk_nodes.proofs.ManyLaws.{sides_cons, sides_split, sides_append, both_sound, sound_behind, from_behind, sought_behind, greatest_behind, unread_behind, sizes_behind}
use Rattle.sk_nodes.proofs.OrManyLaws.{OrSoFar, size_some, moved_first, kept_behind, weighed_more, or_led, or_round, or_on, or_top, or_matches, or_found, or_kept, or_gone, or_gone_kept, ended_unread, ended_lands}

-- ---- a node that is sought, by what is read of it

-- two sides
pub pair_read : {node : Node} {form f : Form} {ta tb va vb : Top} {a b p q : Box Node Global} {x y : Node} → node ≡ Node.Pair form ta a tb b → f ≡ form → va ≡ ta → vb ≡ tb → p ≡ a → x ≡ p.value → q ≡ b → y ≡ q.value
    → shape_of node ≡ pair f va (shape_of x) vb (shape_of y)
pair_read is ef ea eb ep ex eq ey = parts_shape _ _ _ _ _ _ _ _ _ _ _ is ef ea eb (ex ∙ ap (λ (k : Box Node Global). k.value) ep) (ey ∙ ap (λ (k : Box Node Global). k.value) eq)

-- an xor of many sides
pub xor_many_read : {node : Node} {v p : Vec Top Global} {w q : Vec Node Global} {ts : List Top} {ns : List Node} → node ≡ Node.XorMany v w → p ≡ v → ts ≡ p.items → q ≡ w → ns ≡ q.items → shape_of node ≡ xor_many (sides_on ts ns)
xor_many_read is ep et eq en = xor_many_shape _ _ _ _ _ is (et ∙ ap (λ (k : Vec Top Global). k.items) ep) (en ∙ ap (λ (k : Vec Node Global). k.items) eq)

-- an or of many sides
pub or_many_read : {node : Node} {v p : Vec Top Global} {w q : Vec Node Global} {ts : List Top} {ns : List Node} → node ≡ Node.OrMany v w → p ≡ v → ts ≡ p.items → q ≡ w → ns ≡ q.items → shape_of node ≡ or_many (sides_on ts ns)
or_many_read is ep et eq en = or_many_shape _ _ _ _ _ is (et ∙ ap (λ (k : Vec Top Global). k.items) ep) (en ∙ ap (λ (k : Vec Node Global). k.items) eq)

-- many lists
pub merge_read : {node : Node} {b p : Box Merge Global} {m : Merge} → node ≡ Node.Merge b → p ≡ b → m ≡ p.value → shape_of node ≡ or_many (gathered m)
merge_read is ep em = merge_shape _ _ _ is (em ∙ ap (λ (k : Box Merge Global). k.value) ep)

-- a test of a node
pub positional_read : {node : Node} {p q : Proximity} {t u : Top} {b k : Box Node Global} {x : Node} → node ≡ Node.Positional p t b → q ≡ p → u ≡ t → k ≡ b → x ≡ k.value → shape_of node ≡ positional q u (shape_of x)
positional_read is ep et ek ex = positional_shape _ _ _ _ _ _ _ is ep et (ex ∙ ap (λ (k : Box Node Global). k.value) ek)

-- sums of wdfs
pub synonym_read : {node : Node} {scheme other : Scheme} {factor f : ℕ} {t u : Top} {b k : Box Node Global} {x : Node} → node ≡ Node.Synonym scheme factor t b → other ≡ scheme → f ≡ factor → u ≡ t → k ≡ b → x ≡ k.value
    → shape_of node ≡ synonym other f u (shape_of x)
synonym_read is es ef et ek ex = synonym_shape _ _ _ _ _ _ _ _ _ is es ef et (ex ∙ ap (λ (k : Box Node Global). k.value) ek)

-- how it was sought, by the shapes
pub sought_by : {i : Indexed} {target need before after steps more : ℕ} {old new s t : Shape} {top : Top} → old ≡ s → new ≡ t → WasSought i target need (greatest_held s) before after steps more s t top
    → WasSought i target need (greatest_held old) before after steps more old new top
sought_by e f h = sought_along _ _ _ _ _ _ _ _ _ _ _ _ e f h

-- and its account
pub account_by : {i : Indexed} {target need before after : ℕ} {old new s t : Shape} {top : Top} → old ≡ s → new ≡ t → SeekAccounts i target need before after s t top → SeekAccounts i target need before after old new top
account_by e f h = seek_along _ _ _ _ _ _ _ _ _ _ e f h

-- no list leads in an or of many sides, and none fades
pub account_of_or : {i : Indexed} {target need before after : ℕ} {ss rs : Sides} {top : Top} → Accounts i target need before after (or_many ss) (or_many rs) → SeekAccounts i target need before after (or_many ss) (or_many rs) top
account_of_or h = seek_some _ _ _ _ _ (or_many _) (or_many _) _ (λ h. h) (λ h. h) (λ greatest first h. h) h

-- nor in sums of wdfs
pub account_of_sums : {i : Indexed} {target need before after : ℕ} {scheme v : Scheme} {factor f : ℕ} {t u : Top} {s r : Shape} {top : Top} → Accounts i target need before after (synonym scheme factor t s) (synonym v f u r)
    → SeekAccounts i target need before after (synonym scheme factor t s) (synonym v f u r) top
account_of_sums h = seek_some _ _ _ _ _ (synonym _ _ _ _) (synonym _ _ _ _) _ (λ h. h) (λ h. h) (λ greatest first h. h) h

-- an xor of many sides has none
pub account_of_xor : {i : Indexed} {target need before after : ℕ} {ss rs : Sides} {top : Top} → SeekAccounts i target need before after (xor_many ss) (xor_many rs) top
account_of_xor = seek_other _ _ _ _ _ (xor_many _) (xor_many _) _ (λ h. h) (λ h. h) (λ h. h) (λ h. h) (λ h. h) (λ greatest first h. h)

-- nor has a test
pub account_of_test : {i : Indexed} {target need before after : ℕ} {p q : Proximity} {t u : Top} {s r : Shape} {top : Top} → SeekAccounts i target need before after (positional p t s) (positional q u r) top
account_of_test = seek_other _ _ _ _ _ (positional _ _ _) (positional _ _ _) _ (λ h. h) (λ h. h) (λ h. h) (λ h. h) (λ h. h) (λ greatest first h. h)

-- ---- two sides

-- the first was moved on from where both have come
module _ {i : Indexed} {form : Form} {target need from n spent mid steps more : ℕ} {ta0 : Top} {a0 : Shape} {tb0 : Top} {b0 : Shape} {ta : Top} {a : Shape} {tb : Top} {b : Shape} {ua : Top} {c : Shape}
    (far : SidesSoFar i form target need from ta0 a0 tb0 b0 ta a tb b) (is : n ≡ first_need form need tb.greatest) (one : WasSought i from n ta.greatest spent mid steps more a c ua) where
  -- under what the second leaves to be needed
  first_covers : Covers (from_on from (rest i a)) (rest i c) (first_need form need tb.greatest)
  first_covers = subst (λ k. Covers (from_on from (rest i a)) (rest i c) k) is one.lands.covers

  -- it has ended, and leads
  pub pair_ended : {next before begun : ℕ} {t : Top} → Spends (unread_of i a0 + unread_of i b0) (unread_of i a + unread_of i b) before spent begun steps → next ≡ second_target form from ua.head → 2 ^ 32 ≤ next
      → t ≡ record { head = 2 ^ 32; weight = 0; greatest = 0 } → target < 2 ^ 32
      → WasSought i target need (greatest_under form ta0.greatest tb0.greatest) before mid begun more (pair form ta0 a0 tb0 b0) (pair form ua c tb b) t
  pair_ended spends at end over small =
      let led = target_ended form from ua.head far.within (omega (arith, end, at)) in
      record {
        lands = record {
          top = subst (λ (u : Top). IsTop i u (pair form ua c tb b)) (sym over) (pair_top_ended i form ua c tb b one.lands.top led.0 led.1);
          sound = record { first = one.lands.top; second = far.pair.second; first_sound = one.lands.sound; second_sound = far.pair.second_sound; fits = omega (arith, one.falls, far.pair.fits) };
          covers = sides_covers_ended i form target need from ta0 a0 tb0 b0 ta a tb b ua c far one.lands.top one.lands.reached first_covers led.0 led.1;
          reached = omega (arith, ap (λ (u : Top). u.head) over, small);
        };
        falls = omega (arith, ap (λ (u : Top). u.greatest) over);
        smaller = omega (arith, one.smaller, far.first_smaller, far.second_smaller);
        spends = spends_then spends (spends_first _ one.spends);
      }

  -- and so its account
  pub pair_ended_accounts : {next before : ℕ} {t : Top} → AccountsSoFar i form target need from before spent ta0 a0 tb0 b0 ta a tb b → FadesSoFar i form target from before spent ta0 a0 tb0 b0 ta a tb b → ReachAccounts i from n spent mid a c ta ua
      → next ≡ second_target form from ua.head → 2 ^ 32 ≤ next → t ≡ record { head = 2 ^ 32; weight = 0; greatest = 0 } → SeekAccounts i target need before mid (pair form ta0 a0 tb0 b0) (pair form ua c tb b) t
  pair_ended_accounts so fades kept at end over =
      let led = target_ended form from ua.head far.within (omega (arith, end, at)) in
      record {
        all =
            accounts_then i form target need from _ spent mid ta0 a0 tb0 b0 ta a tb b ua c tb b so
            (round_ended i form from need spent mid mid ta a tb b ua c tb b far.pair.second.bound one.lands.top one.falls first_covers (subst (λ k. Accounts i from k spent mid a c) is kept.all) kept.at led.0);
        at = λ h. inr (ap (λ (u : Top). u.head) over);
        moves = λ lone. absurd lone;
        fades = fades_half i form target from _ spent mid ta0 a0 tb0 b0 ta a tb b ua c fades kept.moves (omega (arith, end, at)) far.within;
      }

  -- then the second was, from where the form says
  module _ {next k after last : ℕ} {ub : Top} {d : Shape} (at : next ≡ second_target form from ua.head) (needs : k ≡ second_need form need ua.greatest) (two : WasSought i next k tb.greatest mid after more last b d ub) where
    -- under what the first leaves to be needed
    second_covers : Covers (from_on next (rest i b)) (rest i d) (second_need form need ua.greatest)
    second_covers = subst (λ m. Covers (from_on next (rest i b)) (rest i d) m) needs two.lands.covers

    -- what they give covers what they gave
    both_covers : Covers (from_on target (λ id. paired form (rest i a0 id) (rest i b0 id))) (λ id. paired form (rest i c id) (rest i d id)) need
    both_covers = sides_covers i form target need from next ta0 a0 tb0 b0 ta a tb b ua c d far one.lands.top one.lands.reached first_covers second_covers at

    -- they meet
    pub pair_meets : {before begun : ℕ} {t : Top} → Spends (unread_of i a0 + unread_of i b0) (unread_of i a + unread_of i b) before spent begun steps → IsHead t.head t.weight (λ id. paired form (rest i c id) (rest i d id))
        → (t.head < 2 ^ 32 → t.greatest ≡ greatest_under form ua.greatest ub.greatest) → (t.head ≡ 2 ^ 32 → t.greatest ≡ 0) → t.greatest ≤ greatest_under form ua.greatest ub.greatest → target < 2 ^ 32
        → WasSought i target need (greatest_under form ta0.greatest tb0.greatest) before after begun last (pair form ta0 a0 tb0 b0) (pair form ua c ub d) t
    pair_meets spends meets exact closed bound small =
        let mono = greatest_under-mono form ta0.greatest tb0.greatest ua.greatest ub.greatest (omega (arith, one.falls, far.first_falls)) (omega (arith, two.falls, far.second_falls)) in
        record {
          lands = record {
            top = pair_top i form ua c ub d _ one.lands.top two.lands.top meets exact closed;
            sound = record { first = one.lands.top; second = two.lands.top; first_sound = one.lands.sound; second_sound = two.lands.sound; fits = omega (arith, one.falls, two.falls, far.pair.fits) };
            covers = both_covers;
            reached = head_reached target need _ _ _ _ both_covers meets small;
          };
          falls = omega (arith, mono, bound);
          smaller = omega (arith, one.smaller, two.smaller, far.first_smaller, far.second_smaller);
          spends = spends_then spends (spends_then (spends_first _ one.spends) (spends_second _ two.spends));
        }

    -- they go on
    pub pair_goes : {further : ℕ} → GoesOn ua.head further (λ id. paired form (rest i c id) (rest i d id)) → SidesSoFar i form target need further ta0 a0 tb0 b0 ua c ub d
    pair_goes on =
        sides_more i form target need from _ ta0 a0 tb0 b0 ta a tb b ua c ub d far one.lands.top two.lands.top one.lands.sound two.lands.sound one.falls two.falls one.smaller two.smaller both_covers on.within on.below

    -- what they keep of their accounts
    module _ {before : ℕ} (there : next < 2 ^ 32) (so : AccountsSoFar i form target need from before spent ta0 a0 tb0 b0 ta a tb b) (fades : FadesSoFar i form target from before spent ta0 a0 tb0 b0 ta a tb b)
        (kept : ReachAccounts i from n spent mid a c ta ua) (also : ReachAccounts i next k mid after b d tb ub) where
      -- of this round alone
      round : Accounts i from need spent after (pair form ta a tb b) (pair form ua c ub d)
      round =
          round_both i form from need spent mid after ta a tb b ua c ub d far.pair.second.bound one.lands.top one.falls first_covers (subst (λ m. Accounts i from m spent mid a c) is kept.all) kept.at next at there two.falls
          (subst (λ m. Accounts i next m mid after b d) needs also.all)

      -- where they meet
      pub pair_meets_accounts : (t : Top) → (is_led form ≡ true → MeetsAt ua.head (Meeting.At t.head t.weight)) → MeetsBoth form ua.head ub.head (Meeting.At t.head t.weight)
          → SeekAccounts i target need before after (pair form ta0 a0 tb0 b0) (pair form ua c ub d) t
      pair_meets_accounts t meets both = record {
        all = accounts_then i form target need from before spent after ta0 a0 tb0 b0 ta a tb b ua c ub d so round;
        at = λ led.
            let now = (so.far with_lead).keeps.kind led in
            meets_lead i form ta0 a0 tb0 b0 t ua c ub d t.head t.weight led (kept.at now.1.1 now.1.0) meets refl;
        moves = λ lone. absurd lone;
        fades = fades_both i form target from before spent mid ta0 a0 tb0 b0 ta a tb b ua c fades kept.moves after next there ub d at also.moves t.head t.weight both;
      }

      -- where they go on
      pub pair_goes_accounts : (further : ℕ) → GoesOn ua.head further (λ id. paired form (rest i c id) (rest i d id)) → GoesOnOnly form (Meeting.Behind further) → AccountsSoFar i form target need further before after ta0 a0 tb0 b0 ua c ub d
      pair_goes_accounts further on only =
          accounts_on i form target need from before spent after ta0 a0 tb0 b0 ta a tb b ua c ub d so round further
          (pair_covers form from next need ua.greatest tb.greatest (rest i a) (rest i b) (rest i c) (rest i d) ua.head ua.weight far.pair.second.bound one.lands.top.bound one.lands.top.head one.lands.reached first_covers second_covers at)
          only on.below

      -- and where they may fade
      pub pair_goes_fades : (further : ℕ) → GoesOnOnly form (Meeting.Behind further) → MeetsBoth form ua.head ub.head (Meeting.Behind further) → FadesSoFar i form target further before after ta0 a0 tb0 b0 ua c ub d
      pair_goes_fades further only both = fades_on i form target from before spent mid ta0 a0 tb0 b0 ta a tb b ua c fades kept.moves after next there ub d at also.moves further only both

-- ---- a test

-- the node below was moved on from where the test has come
module _ {i : Indexed} {target need from spent mid steps more : ℕ} {p0 : Proximity} {t0 : Top} {s0 : Shape} {p : Proximity} {t : Top} {s : Shape} {t2 : Top} {s2 : Shape}
    (far : TestSoFar i target need from p0 t0 s0 p t s) (one : WasSought i from need t.greatest spent mid steps more s s2 t2) where
  -- all the terms are where it stands
  pub test_all : t2.head < 2 ^ 32 → IsInAll i t2.head p.numbers.items
  test_all lt = moved_all i target need from p0 t0 s0 p t s t2 s2 far one.lands.top one.lands.sound one.lands.reached one.falls one.smaller one.lands.covers lt

  -- it has ended
  pub test_ended : {before begun : ℕ} {top : Top} → Spends (unread_of i s0 + entries_unread i p0.next p0.numbers.items) (unread_of i s + entries_unread i p.next p.numbers.items) before spent begun steps → 2 ^ 32 ≤ t2.head
      → top ≡ record { head = 2 ^ 32; weight = 0; greatest = 0 } → target < 2 ^ 32 → WasSought i target need t0.greatest before mid begun more (positional p0 t0 s0) (positional p t2 s2) top
  test_ended spends end over small = record {
    lands = record {
      top = subst (λ (u : Top). IsTop i u (positional p t2 s2)) (sym over) (ended_test i p t2 s2 one.lands.top end);
      sound = moved_ended i target need from p0 t0 s0 p t s t2 s2 far one.lands.top one.lands.sound one.lands.reached one.falls one.smaller one.lands.covers (omega (arith, end, one.lands.top.head.within));
      covers = moved_covers i target need from p0 t0 s0 p t s t2 s2 far one.lands.top one.lands.sound one.lands.reached one.falls one.smaller one.lands.covers;
      reached = omega (arith, ap (λ (u : Top). u.head) over, small);
    };
    falls = omega (arith, ap (λ (u : Top). u.greatest) over);
    smaller = omega (arith, one.smaller, far.smaller);
    spends = spends_then spends (spends_first _ one.spends);
  }

  -- what it gives was tested
  module _ {q : Proximity} (same : IsSameTest p q) (next : q.next ≤ max p.next (t2.head + 1)) (lt : t2.head < 2 ^ 32) where
    -- what was spent on both
    pub test_spends : {before begun after last : ℕ} → Spends (unread_of i s0 + entries_unread i p0.next p0.numbers.items) (unread_of i s + entries_unread i p.next p.numbers.items) before spent begun steps
        → Spends (entries_unread i p.next p.numbers.items) (entries_unread i q.next p.numbers.items) mid after more last
        → Spends (unread_of i s0 + entries_unread i p0.next p0.numbers.items) (unread_of i s2 + entries_unread i q.next q.numbers.items) before after begun last
    test_spends spends read = spends_less (omega (arith, ap (entries_unread i q.next) same.numbers)) (spends_then spends (spends_then (spends_first _ one.spends) (spends_second _ read)))

    -- it passed
    pub test_passed : {before begun after last : ℕ} → Spends (unread_of i s0 + entries_unread i p0.next p0.numbers.items) (unread_of i s + entries_unread i p.next p.numbers.items) before spent begun steps
        → Spends (entries_unread i p.next p.numbers.items) (entries_unread i q.next p.numbers.items) mid after more last → holds_in i p t2.head ≡ true → target < 2 ^ 32
        → WasSought i target need t0.greatest before after begun last (positional p0 t0 s0) (positional q t2 s2) t2
    test_passed spends read passes small =
        let top = passed_top i target need from p0 t0 s0 p t s t2 s2 far one.lands.top one.lands.sound one.lands.reached one.falls one.smaller one.lands.covers q same next lt passes in
        let covers = passed_covers i target need from p0 t0 s0 p t s t2 s2 far one.lands.top one.lands.sound one.lands.reached one.falls one.smaller one.lands.covers q same next lt in
        record {
          lands = record {
            top = top;
            sound = passed_sound i target need from p0 t0 s0 p t s t2 s2 far one.lands.top one.lands.sound one.lands.reached one.falls one.smaller one.lands.covers q same next lt passes;
            covers = covers;
            reached = head_reached target need t2.head t2.weight _ _ covers top.head small;
          };
          falls = omega (arith, one.falls, far.falls);
          smaller = omega (arith, one.smaller, far.smaller);
          spends = test_spends spends read;
        }

    -- it did not, or weighs too little, and nothing lies behind it
    pub test_gone : {before begun after last : ℕ} {u : Top} {r : Shape} {top : Top} → Spends (unread_of i s0 + entries_unread i p0.next p0.numbers.items) (unread_of i s + entries_unread i p.next p.numbers.items) before spent begun steps
        → Spends (entries_unread i p.next p.numbers.items) (entries_unread i q.next p.numbers.items) mid after more last → WeighsBelow need (where_so (holds_in i p t2.head) (Some t2.weight)) → 2 ^ 32 ≤ t2.head + 1
        → u ≡ record { head = 2 ^ 32; weight = 0; greatest = 0 } → r ≡ ended → top ≡ record { head = 2 ^ 32; weight = 0; greatest = 0 } → target < 2 ^ 32
        → WasSought i target need t0.greatest before after begun last (positional p0 t0 s0) (positional q u r) top
    test_gone {u} {r} spends read fails end none gone over small = record {
      lands = record {
        top = subst (λ (v : Top). IsTop i v (positional q u r)) (sym over) (none_top i q u r (λ id. ap (λ (x : Shape). rest i x id) gone));
        sound =
            subst (λ (v : Top). IsPositional i q v r (Sound i r)) (sym none)
            (subst (λ (x : Shape). IsPositional i q (record { head = 2 ^ 32; weight = 0; greatest = 0 }) x (Sound i x)) (sym gone)
            (failed_ended_sound i target need from p0 t0 s0 p t s t2 s2 far one.lands.top one.lands.sound one.lands.reached one.falls one.smaller one.lands.covers q same next lt));
        covers =
            subst (λ (x : Shape). Covers (from_on target (rest i (positional p0 t0 s0))) (rest i (positional q u x)) need) (sym gone)
            (failed_ended_covers i target need from p0 t0 s0 p t s t2 s2 far one.lands.top one.lands.sound one.lands.reached one.falls one.smaller one.lands.covers q same next lt fails end u);
        reached = omega (arith, ap (λ (v : Top). v.head) over, small);
      };
      falls = omega (arith, ap (λ (v : Top). v.greatest) over);
      smaller = omega (arith, one.smaller, far.smaller, ap size_of gone, size_some s2);
      spends = spends_less (omega (arith, ap (unread_of i) gone)) (test_spends spends read);
    }

    -- the test goes on behind it
    pub test_goes : WeighsBelow need (where_so (holds_in i p t2.head) (Some t2.weight)) → t2.head + 1 < 2 ^ 32 → TestSoFar i target need (t2.head + 1) p0 t0 s0 q t2 s2
    test_goes fails less = failed_more i target need from p0 t0 s0 p t s t2 s2 far one.lands.top one.lands.sound one.lands.reached one.falls one.smaller one.lands.covers q same next lt fails less

-- ---- sides, one by one

-- what is known of sides with this first one
pub record HasFirst (i : Indexed) (ss : Sides) (t : Top) (s : Shape) (rs : Sides) : Type 0 where
  pub top : IsTop i t s
  pub sound : Sound i s
  pub others : AreSound i rs
  pub sizes : sizes_in ss ≡ 1 + (size_of s + sizes_in rs)
  pub unread : unread_in i ss ≡ unread_of i s + unread_in i rs

-- sides as lists, of which the first was split off
module _ {ts us : List Top} {ns ms : List Node} {t : Top} {n : Node} (e : IsFirstAndRest ts t us) (f : IsFirstAndRest ns n ms) where
  with_first : sides_on ts ns ≡ side t (shape_of n) (sides_on us ms)
  with_first = sides_cons ts us ns ms t n e f

  -- each of them is sound
  pub has_first : (i : Indexed) → AreSound i (sides_on ts ns) → HasFirst i (sides_on ts ns) t (shape_of n) (sides_on us ms)
  has_first i sound =
      let sides = subst (λ (ss : Sides). AreSound i ss) with_first sound in
      record { top = sides.top; sound = sides.sound; others = sides.others; sizes = ap sizes_in with_first; unread = ap (unread_in i) with_first }

  module _ {i : Indexed} {target before between steps more : ℕ} {u : Top} {r : Shape} (sought : WasSought i target 0 t.greatest before between steps more (shape_of n) r u) where
    -- the first was moved on, and the others
    pub first_moved : {after : ℕ} {rs : Sides} → Accounts i target 0 before between (shape_of n) r → AreMoved i target between after (sides_on us ms) rs → AreMoved i target before after (sides_on ts ns) (side u r rs)
    first_moved {after} {rs} accounts others =
        subst (λ (ss : Sides). AreMoved i target before after ss (side u r rs)) (sym with_first) (moved_first i target before between after steps more t (shape_of n) (sides_on us ms) u r rs sought accounts others)

    -- and they were weighed
    pub first_weighed : {need sum w total : ℕ} {rs : Sides} → unwrap_or (rest i r target) 0 ≡ w → AreWeighed i need target (sum + w) total (sides_on us ms) rs → AreWeighed i need target sum total (sides_on ts ns) (side u r rs)
    first_weighed {need} {sum} {w} {total} {rs} there others =
        subst (λ (ss : Sides). AreWeighed i need target sum total ss (side u r rs)) (sym with_first)
        (weighed_more i need target sum w total t (shape_of n) (sides_on us ms) u r rs sought.lands.top sought.lands.reached sought.lands.covers there others)

-- ---- sides in two halves

-- the lists were split at the same place
module _ (k : ℕ) (ts : List Top) {fs bs : List Top} (ns : List Node) {ms ls : List Node} (e : fs ≡ take k ts) (f : bs ≡ drop k ts) (p : ms ≡ take k ns) (q : ls ≡ drop k ns) where
  as_halves : sides_on ts ns ≡ followed_by (sides_on fs ms) (sides_on bs ls)
  as_halves = sides_split k ts fs bs ns ms ls e f p q

  -- each half is sound
  pub halves_sound : (i : Indexed) → AreSound i (sides_on ts ns) → AreSound i (sides_on fs ms) × AreSound i (sides_on bs ls)
  halves_sound i sound = both_sound i (sides_on fs ms) (sides_on bs ls) (subst (λ (ss : Sides). AreSound i ss) as_halves sound)

  -- they are as many nodes
  pub halves_sizes : sizes_in (sides_on ts ns) ≡ sizes_in (sides_on fs ms) + sizes_in (sides_on bs ls)
  halves_sizes = ap sizes_in as_halves ∙ sizes_behind (sides_on fs ms) (sides_on bs ls)

  -- as much is unread in them
  pub halves_unread : (i : Indexed) → unread_in i (sides_on ts ns) ≡ unread_in i (sides_on fs ms) + unread_in i (sides_on bs ls)
  halves_unread i = ap (unread_in i) as_halves ∙ unread_behind i (sides_on fs ms) (sides_on bs ls)

  -- each half was moved on
  module _ {i : Indexed} {target before between after : ℕ} (us vs : List Top) (os hs : List Node) (same : length us ≡ length os) (front : AreMoved i target before between (sides_on fs ms) (sides_on us os))
      (back : AreMoved i target between after (sides_on bs ls) (sides_on vs hs)) where
    moved_halves : sides_on (us ++ vs) (os ++ hs) ≡ followed_by (sides_on us os) (sides_on vs hs)
    moved_halves = sides_append us vs os hs same

    -- so all were
    pub halves_moved : AreMoved i target before after (sides_on ts ns) (sides_on (us ++ vs) (os ++ hs))
    halves_moved =
        subst (λ (ss : Sides). AreMoved i target before after ss (sides_on (us ++ vs) (os ++ hs))) (sym as_halves)
        (subst (λ (ss : Sides). AreMoved i target before after (followed_by (sides_on fs ms) (sides_on bs ls)) ss) (sym moved_halves) both)
      where
        both : AreMoved i target before after (followed_by (sides_on fs ms) (sides_on bs ls)) (followed_by (sides_on us os) (sides_on vs hs))
        both = record {
          sound = sound_behind i (sides_on us os) (sides_on vs hs) front.sound back.sound;
          falls = omega (arith, greatest_behind (sides_on fs ms) (sides_on bs ls), greatest_behind (sides_on us os) (sides_on vs hs), front.falls, back.falls);
          smaller = omega (arith, sizes_behind (sides_on fs ms) (sides_on bs ls), sizes_behind (sides_on us os) (sides_on vs hs), front.smaller, back.smaller);
          kept = kept_behind i target before between after (sides_on fs ms) (sides_on bs ls) (sides_on us os) (sides_on vs hs) front.kept back.kept;
        }

    -- sought from the target on
    pub halves_sought : AreSought i target (sides_on fs ms) (sides_on us os) → AreSought i target (sides_on bs ls) (sides_on vs hs) → AreSought i target (sides_on ts ns) (sides_on (us ++ vs) (os ++ hs))
    halves_sought first second =
        subst (λ (ss : Sides). AreSought i target ss (sides_on (us ++ vs) (os ++ hs))) (sym as_halves)
        (subst (λ (ss : Sides). AreSought i target (followed_by (sides_on fs ms) (sides_on bs ls)) ss) (sym moved_halves)
        (sought_behind i target (sides_on fs ms) (sides_on bs ls) (sides_on us os) (sides_on vs hs) first second))

    -- none of them stands before it
    pub halves_reached : AreFrom target (sides_on us os) → AreFrom target (sides_on vs hs) → AreFrom target (sides_on (us ++ vs) (os ++ hs))
    halves_reached first second = subst (λ (ss : Sides). AreFrom target ss) (sym moved_halves) (from_behind target (sides_on us os) (sides_on vs hs) first second)

    -- and what it cost
    pub halves_spend : {steps more last : ℕ} → Spends (unread_in i (sides_on fs ms)) (unread_in i (sides_on us os)) before between steps more → Spends (unread_in i (sides_on bs ls)) (unread_in i (sides_on vs hs)) between after more last
        → Spends (unread_in i (sides_on ts ns)) (unread_in i (sides_on (us ++ vs) (os ++ hs))) before after steps last
    halves_spend first second =
        let new = unread_behind i (sides_on us os) (sides_on vs hs) in
        record { paid = omega (arith, halves_unread i, ap (unread_in i) moved_halves, new, first.paid, second.paid); counted = omega (arith, first.counted, second.counted); later = omega (arith, first.later, second.later) }

-- ---- an or of many sides, where something is needed

-- some sides led, from where all have come
module _ {i : Indexed} {target need from before spent mid head : ℕ} {ss0 ss rs : Sides} (needed : 0 < need) (within : from < 2 ^ 32) (far : OrSoFar i target need from before spent ss0 ss) (led : HaveLed i need from (2 ^ 32) head ss rs)
    (lead : AreMoved i from spent mid ss rs) where
  -- nothing that is needed lies before the first of them
  pub some_led : OrSoFar i target need head before mid ss0 rs
  some_led = or_led i target need needed before ss0 from head spent mid ss rs within far led lead.sound lead.falls lead.smaller lead.kept

  -- then all were weighed at the first of them
  module _ {after total : ℕ} {us : Sides} (there : head < 2 ^ 32) (weighed : AreWeighed i need head 0 total rs us) (moved : AreMoved i head mid after rs us) where
    -- nothing that is needed lies before it, still
    some_round : OrSoFar i target need head before after ss0 us
    some_round = or_round i target need needed before ss0 from head spent mid after total ss rs us within there far led lead weighed moved

    -- they weigh too little
    pub some_go : total < need → OrSoFar i target need (head + 1) before after ss0 us
    some_go less = or_on i target need needed before ss0 head after total rs us some_round weighed less

    -- they weigh enough
    pub some_found : {greatest begun last : ℕ} → need ≤ total → Spends (unread_in i ss0) (unread_in i us) before after begun last → (head < 2 ^ 32 → greatest ≡ greatest_sum us) → (head ≡ 2 ^ 32 → greatest ≡ 0) → greatest ≤ greatest_sum us
        → WasSought i target need (greatest_sum ss0) before after begun last (or_many ss0) (or_many us) (record { head = head; weight = total; greatest = greatest })
    some_found enough spends exact closed bound = record {
      lands = record {
        top = or_top i us _ moved.sound (or_matches i target need needed before ss0 head after total rs us there some_round weighed enough) exact closed;
        sound = some_round.sides;
        covers = or_found i target need needed before ss0 head after us some_round (weighed.below enough);
        reached = some_round.begun;
      };
      falls = omega (arith, bound, some_round.falls);
      smaller = omega (arith, some_round.smaller);
      spends = spends;
    }

    -- and so their account
    pub some_found_accounts : Accounts i target need before after (or_many ss0) (or_many us)
    some_found_accounts = or_kept i target need needed before ss0 head after us some_round

-- nothing is left of sides that have come to the end
module _ {i : Indexed} {target need from before after : ℕ} {ss0 ss rs : Sides} (needed : 0 < need) (far : OrSoFar i target need from before after ss0 ss) (over : AreEnded rs) where
  -- how they land
  pub some_ended : {begun last : ℕ} {t : Top} → AreSound i ss0 → 2 ^ 32 ≤ from → sizes_in rs ≤ sizes_in ss → Spends (unread_in i ss0) (unread_in i ss) before after begun last → t ≡ record { head = 2 ^ 32; weight = 0; greatest = 0 } → target < 2 ^ 32
      → WasSought i target need (greatest_sum ss0) before after begun last (or_many ss0) (or_many rs) t
  some_ended sound end smaller spends is small = record {
    lands = ended_lands i target need (or_many ss0) rs _ is over small (or_gone i target need needed before ss0 from after ss rs sound end far over);
    falls = omega (arith, ap (λ (u : Top). u.greatest) is);
    smaller = omega (arith, smaller, far.smaller);
    spends = spends_less (omega (arith, ended_unread i rs over)) spends;
  }

  -- and their account
  pub some_ended_accounts : Accounts i target need before after (or_many ss0) (or_many rs)
  some_ended_accounts = or_gone_kept i target need needed before ss0 from after ss rs far over
