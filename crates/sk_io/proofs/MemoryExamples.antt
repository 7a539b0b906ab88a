-- Calls of a source and of a sink in memory, worked out by hand.
use Rattle.std.proofs.Common.{◌≡◌, ℕ, ◌||◌, false, cond, List, [], ◌∷◌, Option, Some, None, take, refl, codes}
use Rattle.sk_io.specs.Memory.{Feed, feed_fails, portion, fed, starved, Tray, tray_fails, is_over, share, served, spilt, closed, unclosed}

-- How many bytes each call gives, for buffers of these lengths, and none where the call fails.
abbrev given : Feed → List ℕ → List (Option ℕ)
given f [] = []
given f (room ∷ rooms) = cond (feed_fails f) (None ∷ given (starved f) rooms) (Some (portion f room) ∷ given (fed f (portion f room)) rooms)

-- A source gives at most three bytes a call, and fails at the second and the fourth.
pieces_and_faults : given (record { left = codes "abcde"; piece = 3; failing = 2 ∷ 4 ∷ []; calls = 0; faults = 0 }) (2 ∷ 2 ∷ 8 ∷ 8 ∷ 8 ∷ [])
    ≡ Some 2 ∷ None ∷ Some 3 ∷ None ∷ Some 0 ∷ []
pieces_and_faults = refl

-- A call of a sink.
data Call : Type 0 where
  put : List ℕ → Call
  finish : Call

-- How many bytes a call takes, and none where it fails.
abbrev answer : Tray → Call → Option ℕ
answer t (put piece) = cond (tray_fails t || is_over t piece) None (Some (share t piece))
answer t finish = cond (tray_fails t) None (Some 0)

-- The sink after a call.
abbrev after : Tray → Call → Tray
after t (put piece) = cond (tray_fails t || is_over t piece) (spilt t) (served t (take (share t piece) piece))
after t finish = cond (tray_fails t) (unclosed t) (closed t)

-- What the calls answer, and the sink behind them.
abbrev answers : Tray → List Call → List (Option ℕ)
answers t [] = []
answers t (call ∷ calls) = answer t call ∷ answers (after t call) calls

abbrev behind : Tray → List Call → Tray
behind t [] = t
behind t (call ∷ calls) = behind (after t call) calls

-- A sink takes at most two bytes a call and five in all, and fails at the third call and the sixth.
abbrev tray : Tray
tray = record { held = []; piece = 2; room = 5; failing = 3 ∷ 6 ∷ []; calls = 0; faults = 0; settled = false; finishes = 0 }

abbrev calls : List Call
calls = put (codes "abc") ∷ put [] ∷ put (codes "c") ∷ put (codes "cd") ∷ finish ∷ finish ∷ put (codes "ef") ∷ put (codes "f") ∷ put [] ∷ []

takes_and_faults : answers tray calls ≡ Some 2 ∷ Some 0 ∷ None ∷ Some 2 ∷ Some 0 ∷ None ∷ Some 1 ∷ None ∷ Some 0 ∷ []
takes_and_faults = refl

holds : behind tray calls
    ≡ record { held = codes "abcde"; piece = 2; room = 5; failing = 3 ∷ 6 ∷ []; calls = 9; faults = 3; settled = false; finishes = 2 }
holds = refl
