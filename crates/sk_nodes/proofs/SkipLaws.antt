-- Two sides that have come so far, and skip what is light.
use Rattle.std.proofs.Common.{◌≡◌, ◌≤◌, ◌+◌, ◌⊎◌, ℕ, Bool, true, false, inl, inr, sym, subst, ◌∙◌}
use Rattle.sk_query.specs.declared.form.Form.{Form}
use Rattle.sk_index.specs.Indexed.{Indexed}
use Rattle.sk_nodes.specs.declared.top.Top.{Top}
use Rattle.sk_nodes.specs.Shapes.{Shape, pair}
use Rattle.sk_nodes.specs.Fading.{fading_room, both_room}
use Rattle.sk_nodes.specs.Skips.{SidesSkip}
use Rattle.sk_nodes.proofs.BlockLaws.{skip_covers, skip_goes}
use Rattle.sk_nodes.proofs.NodeLaws.{SidesSoFar}
use Rattle.sk_nodes.specs.Led.{IsFollowing}
use Rattle.sk_nodes.specs.Moved.{Kind, flat_to, plain_to, with_lead, lone_behind, nest_behind, account_of}
use Rattle.sk_nodes.proofs.StopLaws.{plain_sides}
use Rattle.sk_nodes.proofs.AccountLaws.{far_skipped}
use Rattle.sk_nodes.proofs.MoveLaws.{AccountsSoFar}
use Rattle.sk_nodes.proofs.FadeNumbers.{sought_further}
use Rattle.sk_nodes.proofs.FadingLaws.{ReadyPair, FadesSoFar}

-- an and is no or and no max
and_or : Form.And ≡ Form.Or → ⊥
and_or e = cc

and_max : Form.And ≡ Form.Max → ⊥
and_max e = cc

module _ (i : Indexed) (form : Form) (target need from to : ℕ) (ta0 : Top) (a0 : Shape) (tb0 : Top) (b0 : Shape) (ta : Top) (a : Shape) (tb : Top) (b : Shape) (skips : SidesSkip i form from need a b to) where
  pub sides_skipped : SidesSoFar i form target need from ta0 a0 tb0 b0 ta a tb b → SidesSoFar i form target need to ta0 a0 tb0 b0 ta a tb b
  sides_skipped far = record {
    pair = far.pair;
    covers = skip_covers i form from need a b to skips _ far.covers;
    within = skips.within;
    first_falls = far.first_falls;
    second_falls = far.second_falls;
    first_smaller = far.first_smaller;
    second_smaller = far.second_smaller;
  }

  pub accounts_skipped : (before spent : ℕ) → AccountsSoFar i form target need from before spent ta0 a0 tb0 b0 ta a tb b → AccountsSoFar i form target need to before spent ta0 a0 tb0 b0 ta a tb b
  accounts_skipped before spent so = record {
    far = λ kind. far_skipped (account_of i need kind) target from to before spent (pair form ta0 a0 tb0 b0) (pair form ta a tb b) (so.far kind) (goes kind);
    advances = so.advances;
  }
    where
      same_or : form ≡ Form.Or → (form ≡ Form.And) ⊎ (to ≡ from) → to ≡ from
      same_or is (inr e) = e
      same_or is (inl e) = absurd (and_or (sym e ∙ is))

      same_max : form ≡ Form.Max → (form ≡ Form.And) ⊎ (to ≡ from) → to ≡ from
      same_max is (inr e) = e
      same_max is (inl e) = absurd (and_max (sym e ∙ is))

      goes : (kind : Kind) → (account_of i need kind).holds (pair form ta a tb b) → (account_of i need kind).may from (pair form ta a tb b) → (account_of i need kind).may to (pair form ta a tb b)
      goes (flat_to point) h may = skip_goes i form from need a b to skips point may
      goes (plain_to point) h may = subst (λ n. n ≤ point + 1) (sym (same_max (plain_sides form ta a tb b h).0 skips.joint)) may
      goes with_lead h may = tt
      goes (lone_behind head unread) h may = absurd h
      goes (nest_behind head unread) h may = subst (λ n. IsFollowing n head) (sym (same_or h.1.0 skips.joint)) may

  -- in an and both sides may go further
  both_ready : (point base spent : ℕ) (first : Bool) → ReadyPair i point Form.And first from base spent ta a tb b → ReadyPair i point Form.And first to base spent ta a tb b
  both_ready point base spent true ready = ready
  both_ready point base spent false ready = (ready.0, (ready.1.0, (sought_further point from to tb.head ta.head (both_room i point b a) ready.1.0 skips.later ready.1.1.0, ready.1.1.1)))

  ready_skipped : (point base spent : ℕ) (first : Bool) → (form ≡ Form.And) ⊎ (to ≡ from) → ReadyPair i point form first from base spent ta a tb b → ReadyPair i point form first to base spent ta a tb b
  ready_skipped point base spent first (inr e) ready = subst (λ n. ReadyPair i point form first n base spent ta a tb b) (sym e) ready
  ready_skipped point base spent first (inl e) ready =
      subst (λ (f : Form). ReadyPair i point f first to base spent ta a tb b) (sym e)
      (both_ready point base spent first (subst (λ (f : Form). ReadyPair i point f first from base spent ta a tb b) e ready))

  pub fades_skipped : (before spent : ℕ) → FadesSoFar i form target from before spent ta0 a0 tb0 b0 ta a tb b → FadesSoFar i form target to before spent ta0 a0 tb0 b0 ta a tb b
  fades_skipped before spent far = record {
    fading = far.fading;
    ready = λ point greatest first h may. ready_skipped point (before + fading_room i point first (pair form ta0 a0 tb0 b0)) spent first skips.joint (far.ready point greatest first h may);
  }
