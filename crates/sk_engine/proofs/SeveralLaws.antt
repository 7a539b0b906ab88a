-- Sessions in several parts.
use Rattle.std.proofs.Common.{◌≡◌, false, length, refl, sym, ◌∙◌, subst, true≢false, lt-ltb}
use Rattle.sk_report.specs.Flights.{none_open}
use Rattle.sk_run.specs.Held.{Held, are_in_parts}
use Rattle.sk_engine.specs.declared.several.Several.{Several}
use Rattle.sk_engine.specs.declared.session.Session.{Session}
use Rattle.sk_engine.specs.declared.session.Session.TheVariants as Session
use Rattle.sk_engine.specs.Sessions.{SessionHolds}

-- Such a session holds its documents in more than one.
pub never_several : (session : Session) (several : Several) → session ≡ Session.Several several → ((held : Held) → SessionHolds session held → are_in_parts held ≡ false) → ⊥
never_several session several is whole =
    let held : Held = record { live = several.parts.live; parts = length several.parts.indexes; flights = none_open } in
    true≢false (sym (lt-ltb 1 held.parts several.more) ∙ whole held (subst (λ (s : Session). SessionHolds s held) (sym is) refl))
