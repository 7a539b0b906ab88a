-- What the calls of `Buckets` leave and tell.
use Rattle.std.proofs.Common.{◌≡◌, ℕ, ◌<◌, ◌≤◌, ◌+◌, ◌-◌, List, length, get_or, set, sym, ap, subst, ◌∙◌, arith}
use Rattle.std.proofs.lemmas.List.{get_or_read, get_or_default, length-set}
use Rattle.sk_buckets.specs.declared.mark.Mark.{Mark}
use Rattle.sk_buckets.specs.declared.bucket.Bucket.{Bucket}
use Rattle.sk_buckets.specs.Marks.{first_head, greatest_of, IsMark, AreMarks}
use Rattle.sk_buckets.specs.Dealt.{mark_at, bucket_at, StandsAt, AreDealt, AllFrom, AreBuckets}
use Rattle.sk_buckets.proofs.MarkLemmas.{first_is, greatest-set, greatest_least, are_set, from_set}
use Rattle.sk_buckets.proofs.DealtLemmas.{first_stands}

module _ (ms : List Mark) (base at : ℕ) (bs : List Bucket) (next : List ℕ) (h : AreDealt ms base bs next) (l : at < length bs) (some : 0 < (bucket_at bs at).count) where
  -- the bucket of a place up to which there is none is that of the first head
  pub tells_head : AreMarks ms → AllFrom (base + at) ms → base + at ≡ first_head ms
  tells_head are from = first_is ms (base + at) (bucket_at bs at).first are.each from (first_stands ms base bs next h at l some)

  -- the first list of a bucket that was read
  pub tells_list : (b : Bucket) → b ≡ get_or bs at b → StandsAt ms (base + at) b.first
  tells_list b e = subst (λ (a : Bucket). StandsAt ms (base + at) a.first) (sym (get_or_read bs at b l e _)) (first_stands ms base bs next h at l some)

pub head_there : (ms : List Mark) (id i : ℕ) (d : Mark) → StandsAt ms id i → (get_or ms i d).head ≡ id
head_there ms id i d s = ap (λ (m : Mark). m.head) (get_or_default ms i d _ s.within) ∙ s.there

-- a list moves on
module _ (ms : List Mark) (i : ℕ) (m : Mark) (l : i < length ms) (is : IsMark m) (later : (get_or ms i m).head ≤ m.head) (falls : m.greatest ≤ (get_or ms i m).greatest) where
  read : get_or ms i m ≡ mark_at ms i
  read = get_or_default ms i m _ l

  falls_there : m.greatest ≤ (mark_at ms i).greatest
  falls_there = subst (λ (n : Mark). m.greatest ≤ n.greatest) read falls

  later_there : (mark_at ms i).head ≤ m.head
  later_there = subst (λ (n : Mark). n.head ≤ m.head) read later

  pub are_moved : AreMarks ms → AreMarks (set ms i m)
  are_moved are = are_set ms i m l is falls_there are

  pub buckets_moved : (old : Mark) (less greatest base at : ℕ) (bs new : List Bucket) (next after : List ℕ) → less ≡ old.greatest - m.greatest → old ≡ get_or ms i old → length new ≡ length bs → length after ≡ length next
      → AreDealt (set ms i m) base new after → AreBuckets ms greatest base at bs next → AreBuckets (set ms i m) (greatest - less) base at new after
  buckets_moved old less greatest base at bs new next after is_less e len long dealt h =
      let was : old.greatest ≡ (mark_at ms i).greatest = ap (λ (n : Mark). n.greatest) (get_or_read ms i old l e _) in
      let sum : greatest - less ≡ greatest_of (set ms i m) = omega (arith, is_less, was, h.sum, falls_there, greatest-set ms i m l, greatest_least ms i l) in
      record {
        are = are_moved h.are;
        sum = sum;
        reached = from_set (base + at) ms i m l (omega (arith, h.reached.each i l, later_there)) h.reached;
        within = omega (arith, h.within, len);
        some = λ some. let here : 0 < length bs = h.some (omega (arith, l)) in omega (arith, here, len);
        long = omega (arith, h.long, long, length-set ms i m);
        dealt = dealt;
      }
