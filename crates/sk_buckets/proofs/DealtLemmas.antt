-- What is true of the buckets when a list comes, leaves, or stands behind them.
use Rattle.std.proofs.Common.{◌≡◌, ◌≢◌, inl, inr, ⊎_elim, ℕ, suc, ◌<◌, ◌≤◌, ◌+◌, ◌-◌, ◌^◌, List, [], ◌∷◌, ◌++◌, length, set, take, replicate, refl, sym, ap, subst, ◌∙◌, arith}
use Rattle.std.proofs.lemmas.Bool.{cases_eq, cases_lt}
use Rattle.std.proofs.lemmas.List.{get_or-set_same, get_or-set_other, length-set, get_or-replicate, length-replicate, take_more, length-take-le}
use Rattle.sk_buckets.specs.declared.mark.Mark.{Mark}
use Rattle.sk_buckets.specs.declared.bucket.Bucket.{Bucket}
use Rattle.sk_buckets.specs.Marks.{first_head, AreMarks}
use Rattle.sk_buckets.specs.Dealt.{mark_at, bucket_at, chain, lists_in, Among, Differ, Apart, IsWithout, StandsAt, IsBucket, AreDealt, AllFrom}
use Rattle.sk_buckets.proofs.ChainLemmas.{chain-set, some_among, first_among}
use Rattle.sk_buckets.proofs.MarkLemmas.{none_counts, none_weighs, one_stands, SameAt, MoreAt, Gains, SameAt-sym, gains-push, gains_back, count_few, weight_light, weight_least, mark_light, are_take}

abbrev pub empty : Bucket
empty = record { count = 0; first = 0; weight = 0 }

-- a bucket with a list more
abbrev pub joined : ℕ → ℕ → Bucket → Bucket
joined i w b = record { count = b.count + 1; first = i; weight = b.weight + w }

same_lists_in : (ms : List Mark) (next new : List ℕ) (id : ℕ) (b : Bucket) → lists_in new b ≡ lists_in next b → IsBucket ms next id b → IsBucket ms new id b
same_lists_in ms next new id b e h = record {
  count = h.count;
  weight = h.weight;
  differ = subst Differ (sym e) h.differ;
  stands = λ i a. h.stands i (subst (Among i) e a);
  all = λ i s. subst (Among i) (sym e) (h.all i s);
}

bucket_same : (ms ns : List Mark) (next : List ℕ) (id : ℕ) (b : Bucket) → SameAt id ms ns → IsBucket ms next id b → IsBucket ns next id b
bucket_same ms ns next id b s h = record {
  count = h.count ∙ sym s.count;
  weight = h.weight ∙ sym s.weight;
  differ = h.differ;
  stands = λ i a. s.to i (h.stands i a);
  all = λ i t. h.all i (s.from i t);
}

-- where a list changed its next that does not stand there
bucket_kept : (ms : List Mark) (next : List ℕ) (id : ℕ) (b : Bucket) (i v : ℕ) → (StandsAt ms id i → ⊥) → IsBucket ms next id b → IsBucket ms (set next i v) id b
bucket_kept ms next id b i v out h = same_lists_in ms next (set next i v) id b (chain-set b.count next b.first i v (λ a. out (h.stands i a))) h

bucket_more : (ms ns : List Mark) (next : List ℕ) (id : ℕ) (b : Bucket) (i w : ℕ) → i < length next → (StandsAt ms id i → ⊥) → MoreAt id ms ns i w → IsBucket ms next id b → IsBucket ns (set next i b.first) id (joined i w b)
bucket_more ms ns next id b i w l out m h =
    let new : List ℕ = set next i b.first in
    let long : b.count + 1 ≡ suc b.count = omega arith in
    let is : lists_in new (joined i w b) ≡ i ∷ lists_in next b = ap (λ n. chain n new i) long
    ∙ ap (λ k. i ∷ chain b.count new k) (get_or-set_same next i b.first 0 l)
    ∙ ap (λ (xs : List ℕ). i ∷ xs) (chain-set b.count next b.first i b.first (λ a. out (h.stands i a))) in
    record {
      count = omega (arith, h.count, m.count);
      weight = omega (arith, h.weight, m.weight);
      differ = subst Differ (sym is) (λ a. out (h.stands i a), h.differ);
      stands = λ j a. ⊎_elim (λ e. subst (StandsAt ns id) (sym e) m.here) (λ b. m.to j (h.stands j b)) (subst (Among j) is a);
      all = λ j s. subst (Among j) (sym is) (⊎_elim (λ e. inl e) (λ t. inr (h.all j t)) (m.from j s));
    }

bucket_less : (ms ns : List Mark) (next new : List ℕ) (id : ℕ) (b c : Bucket) (i w : ℕ) → (StandsAt ms id i → ⊥) → MoreAt id ms ns i w → c.count + 1 ≡ b.count → c.weight + w ≡ b.weight → IsWithout i (lists_in next b) (lists_in new c) → IsBucket ns next id b → IsBucket ms new id c
bucket_less ms ns next new id b c i w out m count weight left h = record {
  count = omega (arith, h.count, m.count, count);
  weight = omega (arith, h.weight, m.weight, weight);
  differ = left.differ;
  stands = λ j a. ⊎_elim (λ e. absurd ((left.other j a).1 e)) (λ s. s) (m.from j (h.stands j (left.other j a).0));
  all = λ j s. left.kept j (h.all j (m.to j s)) (λ e. out (subst (StandsAt ms id) e s));
}

-- no list, no bucket filled
pub none_dealt : (base n : ℕ) (next : List ℕ) → AreDealt [] base (replicate n empty) next
none_dealt base n next = record {
  each = λ place l. let is : bucket_at (replicate n empty) place ≡ empty = get_or-replicate n place empty _ (omega (arith, length-replicate n empty, l)) in
      subst (IsBucket [] next (base + place)) (sym is) (record {
        count = refl;
        weight = refl;
        differ = tt;
        stands = λ i a. absurd a;
        all = λ i s. absurd (omega (arith, s.within));
      });
}

module _ (ms ns : List Mark) (i : ℕ) (m : Mark) (base : ℕ) (bs : List Bucket) (next : List ℕ) (g : Gains (base + length bs) ms ns i m) where
  -- a list comes to a place
  pub dealt_more : (place : ℕ) → place < length bs → m.head ≡ base + place → i < length next → AreDealt ms base bs next → AreDealt ns base (set bs place (joined i m.weight (bucket_at bs place))) (set next i (bucket_at bs place).first)
  dealt_more place l e long h = record {
    each = λ p k. let k : p < length bs = omega (arith, k, length-set bs place (joined i m.weight (bucket_at bs place))) in
        ⊎_elim
        (λ (q : p ≡ place).
        let is : bucket_at (set bs place (joined i m.weight (bucket_at bs place))) p ≡ joined i m.weight (bucket_at bs place) = ap (bucket_at (set bs place (joined i m.weight (bucket_at bs place)))) q ∙ get_or-set_same bs place _ _ l in
        let here : m.head ≡ base + p = omega (arith, e, q) in
        let more : MoreAt (base + p) ms ns i m.weight = subst (λ id. MoreAt id ms ns i m.weight) here (g.more (omega (arith, e, l))) in
        subst (IsBucket ns (set next i (bucket_at bs place).first) (base + p)) (sym is)
        (bucket_more ms ns next (base + p) (bucket_at bs place) i m.weight long (g.new (base + p) (omega (arith, k))) more
        (subst (λ n. IsBucket ms next (base + p) (bucket_at bs n)) q (h.each p k))))
        (λ (ne : p ≢ place).
        let is : bucket_at (set bs place (joined i m.weight (bucket_at bs place))) p ≡ bucket_at bs p = get_or-set_other bs place p _ _ ne in
        subst (IsBucket ns (set next i (bucket_at bs place).first) (base + p)) (sym is)
        (bucket_same ms ns (set next i (bucket_at bs place).first) (base + p) (bucket_at bs p) (g.same (base + p) (omega (arith, k)) (λ q. ne (omega (arith, q, e))))
        (bucket_kept ms next (base + p) (bucket_at bs p) i (bucket_at bs place).first (g.new (base + p) (omega (arith, k))) (h.each p k))))
        (cases_eq p place);
  }

  -- a list comes behind them
  pub dealt_behind : base + length bs ≤ m.head → AreDealt ms base bs next → AreDealt ns base bs next
  dealt_behind far h = record { each = λ p l. bucket_same ms ns next (base + p) (bucket_at bs p) (g.same (base + p) (omega (arith, l)) (λ e. absurd (omega (arith, e, l, far)))) (h.each p l) }

  -- a list leaves that stood behind them
  pub dealt_past : base + length bs ≤ m.head → AreDealt ns base bs next → AreDealt ms base bs next
  dealt_past far h = record { each = λ p l. bucket_same ns ms next (base + p) (bucket_at bs p) (SameAt-sym (base + p) ms ns (g.same (base + p) (omega (arith, l)) (λ e. absurd (omega (arith, e, l, far))))) (h.each p l) }

  -- a list leaves its place
  pub dealt_less : (cs : List Bucket) (new : List ℕ) (place : ℕ) → place < length bs → m.head ≡ base + place → length cs ≡ length bs → ((p : ℕ) → p ≢ place → bucket_at cs p ≡ bucket_at bs p)
      → (bucket_at cs place).count + 1 ≡ (bucket_at bs place).count → (bucket_at cs place).weight + m.weight ≡ (bucket_at bs place).weight
      → IsWithout i (lists_in next (bucket_at bs place)) (lists_in new (bucket_at cs place))
      → ((n f : ℕ) → Apart (chain n next f) (lists_in next (bucket_at bs place)) → chain n new f ≡ chain n next f)
      → AreDealt ns base bs next → AreDealt ms base cs new
  dealt_less cs new place l e len others count weight left apart h = record {
    each = λ p k. let k : p < length bs = omega (arith, k, len) in
        ⊎_elim
        (λ (q : p ≡ place).
        let here : m.head ≡ base + p = omega (arith, e, q) in
        let more : MoreAt (base + p) ms ns i m.weight = subst (λ id. MoreAt id ms ns i m.weight) here (g.more (omega (arith, e, l))) in
        subst (λ n. IsBucket ms new (base + p) (bucket_at cs n)) (sym q)
        (bucket_less ms ns next new (base + p) (bucket_at bs place) (bucket_at cs place) i m.weight (g.new (base + p) (omega (arith, k))) more count weight left
        (subst (λ n. IsBucket ns next (base + p) (bucket_at bs n)) q (h.each p k))))
        (λ (ne : p ≢ place).
        subst (IsBucket ms new (base + p)) (sym (others p ne))
        (bucket_same ns ms new (base + p) (bucket_at bs p) (SameAt-sym (base + p) ms ns (g.same (base + p) (omega (arith, k)) (λ q. ne (omega (arith, q, e)))))
        (same_lists_in ns next new (base + p) (bucket_at bs p)
        (apart (bucket_at bs p).count (bucket_at bs p).first (λ j a b.
        let s : StandsAt ns (base + p) j = (h.each p k).stands j a in
        let t : StandsAt ns (base + place) j = (h.each place l).stands j b in
        ne (omega (arith, s.there, t.there))))
        (h.each p k))))
        (cases_eq p place);
  }

module _ (ms : List Mark) (base : ℕ) (bs : List Bucket) (next : List ℕ) (h : AreDealt ms base bs next) where
  -- a list is among those of its bucket
  pub among_its : (i place : ℕ) → i < length ms → place < length bs → (mark_at ms i).head ≡ base + place → Among i (lists_in next (bucket_at bs place))
  among_its i place l k e = (h.each place k).all i (record { within = l; there = e })

  -- and each of those is the number of a list
  pub among_within : (i place : ℕ) → place < length bs → Among i (lists_in next (bucket_at bs place)) → i < length ms
  among_within i place k a = let s : StandsAt ms (base + place) i = (h.each place k).stands i a in s.within

  -- empty buckets are passed
  pub passed : (at end : ℕ) → end ≤ length bs → ((place : ℕ) → at ≤ place → place < end → (bucket_at bs place).count ≡ 0) → at ≤ end → AllFrom (base + at) ms → AllFrom (base + end) ms
  passed at end le none up from = record {
    each = λ i l. ⊎_elim
        (λ (lt : (mark_at ms i).head < base + end).
        let place : ℕ = (mark_at ms i).head - base in
        let low : base + at ≤ (mark_at ms i).head = from.each i l in
        let in' : place < length bs = omega (arith, lt, le, low) in
        let a : Among i (lists_in next (bucket_at bs place)) = among_its i place l in' (omega (arith, low)) in
        absurd (omega (arith, some_among (bucket_at bs place).count next (bucket_at bs place).first i a, none place (omega (arith, low)) (omega (arith, lt, low)))))
        (λ (k : base + end ≤ (mark_at ms i).head). k)
        (cases_lt (mark_at ms i).head (base + end));
  }

  -- what the first filled bucket tells
  pub first_stands : (at : ℕ) → at < length bs → 0 < (bucket_at bs at).count → StandsAt ms (base + at) (bucket_at bs at).first
  first_stands at l some = (h.each at l).stands (bucket_at bs at).first (first_among (bucket_at bs at).count next (bucket_at bs at).first some)

  -- a bucket at which a list stands is filled
  pub filled_at : (i at : ℕ) → at < length bs → StandsAt ms (base + at) i → 0 < (bucket_at bs at).count
  filled_at i at l s = some_among (bucket_at bs at).count next (bucket_at bs at).first i ((h.each at l).all i s)

-- what bounds the sums of a bucket
pub bucket_few : (ms : List Mark) (next : List ℕ) (id : ℕ) (b : Bucket) → IsBucket ms next id b → b.count ≤ length ms
bucket_few ms next id b h = omega (arith, h.count, count_few id ms)

pub bucket_light : (ms : List Mark) (next : List ℕ) (id : ℕ) (b : Bucket) → AreMarks ms → IsBucket ms next id b → b.weight < 2 ^ 63
bucket_light ms next id b are h = omega (arith, h.weight, weight_light id ms are.each, are.fits)

-- the lists in front of one, dealt one by one
module _ (ms : List Mark) (base : ℕ) (bs : List Bucket) (next : List ℕ) (k : ℕ) (l : k < length ms) (h : AreDealt (take k ms) base bs next) where
  front : take (k + 1) ms ≡ take k ms ++ mark_at ms k ∷ []
  front = take_more ms k _ l

  so_many : length (take k ms) ≡ k
  so_many = length-take-le k ms (omega (arith, l))

  gains : Gains (base + length bs) (take k ms) (take (k + 1) ms) k (mark_at ms k)
  gains =
      subst (λ (ns : List Mark). Gains (base + length bs) (take k ms) ns k (mark_at ms k)) (sym front)
      (subst (λ n. Gains (base + length bs) (take k ms) (take k ms ++ mark_at ms k ∷ []) n (mark_at ms k)) so_many
      (gains-push (take k ms) (mark_at ms k) (base + length bs)))

  pub deal_more : (place : ℕ) → place < length bs → (mark_at ms k).head ≡ base + place → k < length next → AreDealt (take (k + 1) ms) base (set bs place (joined k (mark_at ms k).weight (bucket_at bs place))) (set next k (bucket_at bs place).first)
  deal_more place in' e long = dealt_more (take k ms) (take (k + 1) ms) k (mark_at ms k) base bs next gains place in' e long h

  pub deal_behind : base + length bs ≤ (mark_at ms k).head → AreDealt (take (k + 1) ms) base bs next
  deal_behind far = dealt_behind (take k ms) (take (k + 1) ms) k (mark_at ms k) base bs next gains far h

  pub deal_few : (place : ℕ) → place < length bs → (bucket_at bs place).count ≤ k
  deal_few place in' = omega (arith, so_many, bucket_few (take k ms) next (base + place) (bucket_at bs place) (h.each place in'))

  pub deal_light : (place : ℕ) → place < length bs → AreMarks ms → (bucket_at bs place).weight + (mark_at ms k).weight < 2 ^ 64
  deal_light place in' are = omega (arith, bucket_light (take k ms) next (base + place) (bucket_at bs place) (are_take k ms are) (h.each place in'), mark_light ms k l are)

-- one list, in no bucket, comes to its mark
module _ (ms : List Mark) (base : ℕ) (bs : List Bucket) (next : List ℕ) (i : ℕ) (l : i < length ms) (h : (far : Mark) → base + length bs ≤ far.head → AreDealt (set ms i far) base bs next) where
  abbrev far : Mark
  far = record { head = base + length bs; weight = 0; greatest = 0 }

  far_dealt : AreDealt (set ms i far) base bs next
  far_dealt = h far (omega arith)

  far_gains : Gains (base + length bs) (set ms i far) ms i (mark_at ms i)
  far_gains = gains_back ms i far (base + length bs) l (omega arith)

  pub entered : (place : ℕ) → place < length bs → (mark_at ms i).head ≡ base + place → i < length next → AreDealt ms base (set bs place (joined i (mark_at ms i).weight (bucket_at bs place))) (set next i (bucket_at bs place).first)
  entered place in' e long = dealt_more (set ms i far) ms i (mark_at ms i) base bs next far_gains place in' e long far_dealt

  pub stays_out : base + length bs ≤ (mark_at ms i).head → AreDealt ms base bs next
  stays_out le = dealt_behind (set ms i far) ms i (mark_at ms i) base bs next far_gains le far_dealt

  more_there : (place : ℕ) → place < length bs → (mark_at ms i).head ≡ base + place → MoreAt (base + place) (set ms i far) ms i (mark_at ms i).weight
  more_there place in' e = subst (λ id. MoreAt id (set ms i far) ms i (mark_at ms i).weight) e (far_gains.more (omega (arith, e, in')))

  pub enter_few : (place : ℕ) → place < length bs → (mark_at ms i).head ≡ base + place → (bucket_at bs place).count + 1 ≤ length ms
  enter_few place in' e =
      let b : IsBucket (set ms i far) next (base + place) (bucket_at bs place) = far_dealt.each place in' in
      let m : MoreAt (base + place) (set ms i far) ms i (mark_at ms i).weight = more_there place in' e in
      omega (arith, b.count, m.count, count_few (base + place) ms)

  pub enter_light : (place : ℕ) → place < length bs → (mark_at ms i).head ≡ base + place → AreMarks ms → (bucket_at bs place).weight + (mark_at ms i).weight < 2 ^ 64
  enter_light place in' e are =
      let b : IsBucket (set ms i far) next (base + place) (bucket_at bs place) = far_dealt.each place in' in
      let m : MoreAt (base + place) (set ms i far) ms i (mark_at ms i).weight = more_there place in' e in
      omega (arith, b.weight, m.weight, weight_light (base + place) ms are.each, are.fits)

-- one list leaves its bucket
module _ (ms : List Mark) (base : ℕ) (bs : List Bucket) (next : List ℕ) (i : ℕ) (l : i < length ms) (h : AreDealt ms base bs next) where
  pub leave_light : (place : ℕ) → place < length bs → (mark_at ms i).head ≡ base + place → (mark_at ms i).weight ≤ (bucket_at bs place).weight
  leave_light place in' e =
      let b : IsBucket ms next (base + place) (bucket_at bs place) = h.each place in' in
      omega (arith, b.weight, weight_least (base + place) ms i (record { within = l; there = e }))

  pub was_out : (far : Mark) → base + length bs ≤ far.head → base + length bs ≤ (mark_at ms i).head → AreDealt (set ms i far) base bs next
  was_out far le out = dealt_past (set ms i far) ms i (mark_at ms i) base bs next (gains_back ms i far (base + length bs) l le) out h

-- the window begins anew at the first head, where a list stands
pub filled_first : (ms : List Mark) (bs : List Bucket) (next : List ℕ) → AreMarks ms → 0 < length ms → 0 < length bs → AreDealt ms (first_head ms) bs next → 0 < (bucket_at bs 0).count
filled_first ms bs next are some room h =
    let one : (i : ℕ) × StandsAt ms (first_head ms) i = one_stands ms some are.each in
    let is : first_head ms ≡ first_head ms + 0 = omega arith in
    filled_at ms (first_head ms) bs next h one.0 0 room (subst (λ id. StandsAt ms id one.0) is one.1)

-- where all lists stand behind the window, its buckets are empty
pub none_left : (ms : List Mark) (base later : ℕ) (bs : List Bucket) (next : List ℕ) → AllFrom (base + length bs) ms → AreDealt ms base bs next → AreDealt [] later bs next
none_left ms base later bs next from h = record {
  each = λ place l. let b : IsBucket ms next (base + place) (bucket_at bs place) = h.each place l in record {
    count = b.count ∙ none_counts (base + length bs) (base + place) ms (omega (arith, l)) from;
    weight = b.weight ∙ none_weighs (base + length bs) (base + place) ms (omega (arith, l)) from;
    differ = b.differ;
    stands = λ i a. let s : StandsAt ms (base + place) i = b.stands i a in absurd (omega (arith, s.there, from.each i s.within, l));
    all = λ i s. absurd (omega (arith, s.within));
  };
}
