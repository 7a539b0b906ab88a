-- Laws of a cursor, for those who walk through a list.
use Rattle.std.proofs.Common.{◌≡◌, ℕ, ◌+◌, ◌-◌, ◌<◌, ◌≤◌, [], ◌∷◌, length, drop, get_or, Option, None, Some, ap, subst, ◌∙◌, arith}
use Rattle.std.proofs.lemmas.List.{drop_more, length-append, get_or_append_left}
use Rattle.sk_sorted.specs.Entries.{AreSorted}
use Rattle.sk_sorted.proofs.EntryLaws.{AreSorted-drop}
use Rattle.sk_sorted.specs.Runs.{flat, AreRuns}
use Rattle.sk_sorted.proofs.RunLaws.{AreRuns-sorted, AreRuns-drop, flat-drop}
use Rattle.sk_chunks.specs.Postings.{Postings}
use Rattle.sk_lists.specs.declared.cursor.Cursor.{Cursor}
use Rattle.sk_lists.specs.Lists.{Runs}
use Rattle.sk_lists.specs.Seeks.{count_below, count_to, HasReadTo}
use Rattle.sk_lists.specs.Cursor.{rest_from, headed, left, IsReadLast, IsHeadAt, IsOn}

-- a head at its place, and then the unread, are an end of what stands from its run on
pub headed_is : (p : ℕ × ℕ) (run read : ℕ) (runs : Runs) → IsReadLast p run read runs → drop (read - 1) (flat (drop run runs)) ≡ p ∷ rest_from run read runs
headed_is p run read runs on =
    let within : read ≤ length (get_or runs run []) = on.within in
    let begun : 0 < read = on.begun in
    let whole = flat-drop runs run [] on.there in
    let long : read - 1 < length (flat (drop run runs)) = omega (arith, ap length whole, length-append (get_or runs run []) (flat (drop (run + 1) runs)), within, begun) in
    let back : read - 1 + 1 ≡ read = omega (arith, begun) in
    let here : read - 1 < length (get_or runs run []) = omega (arith, within, begun) in
    drop_more (flat (drop run runs)) (read - 1) p long
    ∙ (λ i. (ap (λ (es : Postings). get_or es (read - 1) p) whole ∙ get_or_append_left (get_or runs run []) (flat (drop (run + 1) runs)) p (read - 1) here ∙ on.is) i ∷ drop (back i) (flat (drop run runs)))

-- what is left is sound, by cases on the head
headed_sound : (head : Option (ℕ × ℕ)) (run read : ℕ) (runs : Runs) → AreRuns runs → IsHeadAt head run read runs → AreSorted (headed head (rest_from run read runs))
headed_sound None run read runs are on = record { rise = tt; small = tt }
headed_sound (Some p) run read runs are on =
    subst AreSorted (headed_is p run read runs on) (AreSorted-drop (read - 1) (flat (drop run runs)) (AreRuns-sorted (drop run runs) (AreRuns-drop run runs are)))

-- what is left to a cursor is sound
pub AreSorted-left : (c : Cursor) (runs : Runs) → AreRuns runs → IsOn c runs → AreSorted (left c runs)
AreSorted-left c runs are on = headed_sound c.head c.run c.read runs are on

-- ---- how much was read up to an id

-- a cursor that was opened
pub read_begins : (id read : ℕ) (c : Cursor) (runs : Runs) → left c runs ≡ flat runs → read ≤ 1 → HasReadTo id read (left c runs) (flat runs)
read_begins id read c runs whole one = omega (arith, ap (count_to id) whole, one)

-- a cursor that was sought for a target no further than behind the id
pub read_goes_on : (id target read count : ℕ) (old new : Cursor) (runs : Runs) → target ≤ id + 1
    → ((t : ℕ) → target ≤ t → count + count_below t (left new runs) ≤ count_below t (left old runs))
    → HasReadTo id read (left old runs) (flat runs) → HasReadTo id (read + count) (left new runs) (flat runs)
read_goes_on id target read count old new runs le moves far = omega (arith, moves (id + 1) le, far)
