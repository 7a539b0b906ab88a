-- Where a search by halves has come, among the blocks and in one of them.
use Rattle.std.proofs.Common.{◌≡◌, ℕ, suc, ◌+◌, ◌-◌, ◌<◌, ◌≤◌, Bool, true, false, List, [], ◌∷◌, ◌++◌, length, take, drop, get_or, set, sym, ap, subst, ◌∙◌, refl, arith, append_assoc}
use Rattle.std.specs.List.{concat, insert}
use Rattle.std.proofs.lemmas.List.{append-nil, take-append-drop, take-append-le, drop-append-le, take-take, take-set-le, drop-take, drop-drop, drop-set-lt, drop_at, drop_more, take_more, length-take-le, length-drop, length-set, get_or-set_same, get_or-set_other, set_split, get_or_read}
use Rattle.std.proofs.lemmas.List.Folds.{concat-append}
use Rattle.std.proofs.lemmas.List.Edits.{get_or-insert_below, get_or-insert_at, length-insert}
use Rattle.sk_dict.specs.Searches.{passes}
use Rattle.sk_dict.specs.Order.{Each, IsRising, IsSplit}
use Rattle.sk_dict.specs.Blocks.{in_block, front_of, rest_from, IsCutInTwo, HasRoom}
use Rattle.sk_dict.proofs.EachLemmas.{Each-append, Each-front, Each-rest}
use Rattle.sk_dict.proofs.RisingLemmas.{IsRising-front, IsRising-rest, front_passes, rest_is_left}

-- the numbers before the block `low` pass, and those from the block `high` on do not
pub record IsHalved (test : ℕ → Bool) (blocks : List (List ℕ)) (low high : ℕ) : Type 0 where
  pub some : low < high
  pub within : high ≤ length blocks
  pub passed : Each (λ n. test n ≡ true) (concat (take low blocks))
  pub left : Each (λ n. test n ≡ false) (concat (drop high blocks))

-- the same of the slots of one block
pub record IsParted (test : ℕ → Bool) (numbers : List ℕ) (low high : ℕ) : Type 0 where
  pub some : low ≤ high
  pub within : high ≤ length numbers
  pub passed : Each (λ n. test n ≡ true) (take low numbers)
  pub left : Each (λ n. test n ≡ false) (drop high numbers)

-- the block begins with this number
pub record BeginsWith (blocks : List (List ℕ)) (b first : ℕ) : Type 0 where
  pub there : b < length blocks
  pub some : 0 < length (in_block blocks b)
  pub is : first ≡ get_or (in_block blocks b) 0 0

-- the numbers from a block on
pub blocks_from : (blocks : List (List ℕ)) (b : ℕ) → b < length blocks → concat (drop b blocks) ≡ in_block blocks b ++ concat (drop (b + 1) blocks)
blocks_from blocks b lt = ap concat (drop_more blocks b [] lt)

-- all numbers, as those before a block and those from it on
pub blocks_at : (blocks : List (List ℕ)) (b : ℕ) → concat blocks ≡ concat (take b blocks) ++ concat (drop b blocks)
blocks_at blocks b = ap concat (sym (take-append-drop b blocks)) ∙ concat-append (take b blocks) (drop b blocks)

-- a list by its first number
headed : (xs : List ℕ) (x : ℕ) → 0 < length xs → x ≡ get_or xs 0 0 → xs ≡ x ∷ drop 1 xs
headed [] x some e = absurd (omega arith)
headed (y ∷ ys) x some e = ap (λ w. w ∷ ys) (sym e)

-- the numbers from a block on, by its first
pub from_first : (blocks : List (List ℕ)) (b first : ℕ) → BeginsWith blocks b first → concat (drop b blocks) ≡ first ∷ (drop 1 (in_block blocks b) ++ concat (drop (b + 1) blocks))
from_first blocks b first h = blocks_from blocks b h.there ∙ ap (λ w. w ++ concat (drop (b + 1) blocks)) (headed (in_block blocks b) first h.some h.is)

-- a list by the number at a offset
pub numbers_at : (numbers : List ℕ) (offset : ℕ) → offset < length numbers → numbers ≡ take offset numbers ++ get_or numbers offset 0 ∷ drop (offset + 1) numbers
numbers_at numbers offset lt = sym (take-append-drop offset numbers) ∙ ap (λ w. take offset numbers ++ w) (drop_more numbers offset 0 lt)

module _ (terms : List (List ℕ)) (key : List ℕ) (behind : Bool) where
  -- the first number of a block in the middle passes
  pub halved_low : (blocks : List (List ℕ)) (low middle high first : ℕ) → IsRising terms (concat blocks) → IsHalved (passes terms key behind) blocks low high → middle < high
      → BeginsWith blocks middle first → passes terms key behind first ≡ true → IsHalved (passes terms key behind) blocks middle high
  halved_low blocks low middle high first rising h lt begins p = record {
    some = lt;
    within = h.within;
    passed = front_passes terms key behind (concat (take middle blocks)) (drop 1 (in_block blocks middle) ++ concat (drop (middle + 1) blocks)) first
        (subst (IsRising terms) (blocks_at blocks middle ∙ ap (λ w. concat (take middle blocks) ++ w) (from_first blocks middle first begins)) rising) p;
    left = h.left;
  }

  -- it does not
  pub halved_high : (blocks : List (List ℕ)) (low middle high first : ℕ) → IsRising terms (concat blocks) → IsHalved (passes terms key behind) blocks low high → low < middle
      → BeginsWith blocks middle first → passes terms key behind first ≡ false → IsHalved (passes terms key behind) blocks low middle
  halved_high blocks low middle high first rising h lt begins p = record {
    some = lt;
    within = omega (arith, begins.there);
    passed = h.passed;
    left = subst (Each (λ n. passes terms key behind n ≡ false)) (sym (from_first blocks middle first begins))
        (rest_is_left terms key behind (concat (take middle blocks)) (drop 1 (in_block blocks middle) ++ concat (drop (middle + 1) blocks)) first
        (subst (IsRising terms) (blocks_at blocks middle ∙ ap (λ w. concat (take middle blocks) ++ w) (from_first blocks middle first begins)) rising) p);
  }

  -- the number at a offset in the middle passes
  pub parted_low : (numbers : List ℕ) (low middle high : ℕ) → IsRising terms numbers → IsParted (passes terms key behind) numbers low high → middle < high
      → passes terms key behind (get_or numbers middle 0) ≡ true → IsParted (passes terms key behind) numbers (middle + 1) high
  parted_low numbers low middle high rising h lt p =
      let inside : middle < length numbers = omega (arith, h.within) in
      record {
        some = omega arith;
        within = h.within;
        passed = subst (Each (λ n. passes terms key behind n ≡ true)) (sym (take_more numbers middle 0 inside))
            (Each-append (λ n. passes terms key behind n ≡ true) (take middle numbers) (get_or numbers middle 0 ∷ [])
            (front_passes terms key behind (take middle numbers) (drop (middle + 1) numbers) (get_or numbers middle 0) (subst (IsRising terms) (numbers_at numbers middle inside) rising) p) (p, tt));
        left = h.left;
      }

  -- it does not
  pub parted_high : (numbers : List ℕ) (low middle high : ℕ) → IsRising terms numbers → IsParted (passes terms key behind) numbers low high → low ≤ middle → middle < high
      → passes terms key behind (get_or numbers middle 0) ≡ false → IsParted (passes terms key behind) numbers low middle
  parted_high numbers low middle high rising h le lt p =
      let inside : middle < length numbers = omega (arith, h.within) in
      record {
        some = le;
        within = omega arith;
        passed = h.passed;
        left = subst (Each (λ n. passes terms key behind n ≡ false)) (sym (drop_more numbers middle 0 inside))
            (rest_is_left terms key behind (take middle numbers) (drop (middle + 1) numbers) (get_or numbers middle 0) (subst (IsRising terms) (numbers_at numbers middle inside) rising) p);
      }

-- what was read of a block
pub read_block : (blocks : List (List ℕ)) (b : ℕ) (block : List ℕ) → b < length blocks → block ≡ get_or blocks b block → block ≡ in_block blocks b
read_block blocks b block lt is = get_or_read blocks b block lt is []

-- the first number of a block that was read
pub begins : (blocks : List (List ℕ)) (b : ℕ) (block numbers : List ℕ) → b < length blocks → block ≡ get_or blocks b block → numbers ≡ block → 0 < length block
    → BeginsWith blocks b (get_or numbers 0 0)
begins blocks b block numbers lt is e some =
    let same : block ≡ in_block blocks b = read_block blocks b block lt is in
    record { there = lt; some = subst (λ w. 0 < length w) same some; is = ap (λ w. get_or w 0 0) (e ∙ same) }

-- what holds of all numbers holds of the first of a block
pub first_has : (P : ℕ → Type 0) (blocks : List (List ℕ)) (b first : ℕ) → Each P (concat blocks) → BeginsWith blocks b first → P first
first_has P blocks b first e h =
    let behind : Each P (first ∷ (drop 1 (in_block blocks b) ++ concat (drop (b + 1) blocks))) =
    subst (Each P) (from_first blocks b first h) (Each-rest P (concat (take b blocks)) (concat (drop b blocks)) (subst (Each P) (blocks_at blocks b) e)) in
    behind.0

-- and of each number of a block
pub block_has : (P : ℕ → Type 0) (blocks : List (List ℕ)) (b : ℕ) → b < length blocks → Each P (concat blocks) → Each P (in_block blocks b)
block_has P blocks b lt e = Each-front P (in_block blocks b) (concat (drop (b + 1) blocks))
    (subst (Each P) (blocks_from blocks b lt) (Each-rest P (concat (take b blocks)) (concat (drop b blocks)) (subst (Each P) (blocks_at blocks b) e)))

-- the terms of a block rise
pub block_rises : (terms blocks : List (List ℕ)) (b : ℕ) → b < length blocks → IsRising terms (concat blocks) → IsRising terms (in_block blocks b)
block_rises terms blocks b lt r = IsRising-front terms (in_block blocks b) (concat (drop (b + 1) blocks))
    (subst (IsRising terms) (blocks_from blocks b lt) (IsRising-rest terms (concat (take b blocks)) (concat (drop b blocks)) (subst (IsRising terms) (blocks_at blocks b) r)))

-- the order, cut in a block
pub order_at : (blocks : List (List ℕ)) (b offset : ℕ) → b < length blocks → concat blocks ≡ front_of blocks b offset ++ rest_from blocks b offset
order_at blocks b offset lt =
    let whole : concat blocks ≡ concat (take b blocks) ++ ((take offset (in_block blocks b) ++ drop offset (in_block blocks b)) ++ concat (drop (b + 1) blocks)) =
    blocks_at blocks b ∙ ap (λ w. concat (take b blocks) ++ w) (blocks_from blocks b lt)
    ∙ ap (λ w. concat (take b blocks) ++ (w ++ concat (drop (b + 1) blocks))) (sym (take-append-drop offset (in_block blocks b))) in
    whole ∙ simp append_assoc

-- a block was found, and a offset in it
pub place_splits : (test : ℕ → Bool) (blocks : List (List ℕ)) (b offset : ℕ) → b < length blocks
    → Each (λ n. test n ≡ true) (concat (take b blocks)) → Each (λ n. test n ≡ false) (concat (drop (b + 1) blocks))
    → Each (λ n. test n ≡ true) (take offset (in_block blocks b)) → Each (λ n. test n ≡ false) (drop offset (in_block blocks b))
    → IsSplit test (concat blocks) (front_of blocks b offset) (rest_from blocks b offset)
place_splits test blocks b offset lt front back low high = record {
  whole = order_at blocks b offset lt;
  passed = Each-append (λ n. test n ≡ true) (concat (take b blocks)) (take offset (in_block blocks b)) front low;
  left = Each-append (λ n. test n ≡ false) (drop offset (in_block blocks b)) (concat (drop (b + 1) blocks)) high back;
}

-- all numbers where one block is another
concat-set : (blocks : List (List ℕ)) (b : ℕ) (block : List ℕ) → b < length blocks → concat (set blocks b block) ≡ concat (take b blocks) ++ (block ++ concat (drop (b + 1) blocks))
concat-set blocks b block lt =
    let next : suc b ≡ b + 1 = omega arith in
    ap concat (set_split blocks b block lt) ∙ concat-append (take b blocks) (block ∷ drop (suc b) blocks)
    ∙ ap (λ k. concat (take b blocks) ++ (block ++ concat (drop k blocks))) next

-- a number put into a block stands at its place in the order
pub block_put : (blocks : List (List ℕ)) (b offset number : ℕ) (block new : List ℕ) → b < length blocks → block ≡ get_or blocks b block → new ≡ insert block offset number
    → concat (set blocks b new) ≡ front_of blocks b offset ++ number ∷ rest_from blocks b offset
block_put blocks b offset number block new lt is e =
    let same : new ≡ insert (in_block blocks b) offset number = e ∙ ap (λ w. insert w offset number) (read_block blocks b block lt is) in
    let whole : concat (set blocks b new) ≡ concat (take b blocks) ++ ((take offset (in_block blocks b) ++ number ∷ drop offset (in_block blocks b)) ++ concat (drop (b + 1) blocks)) =
    concat-set blocks b new lt ∙ ap (λ w. concat (take b blocks) ++ (w ++ concat (drop (b + 1) blocks))) same in
    whole ∙ simp append_assoc

-- a block was cut, by what was read and written on the way
pub block_cut : (blocks made : List (List ℕ)) (b half : ℕ) (block read upper lower : List ℕ) → b < length blocks → block ≡ get_or blocks b block
    → made ≡ insert blocks (b + 1) upper → read ≡ get_or made b read → upper ≡ drop half block → lower ≡ take half read → IsCutInTwo blocks (set made b lower) b half
block_cut blocks made b half block read upper lower lt is grown seen high low =
    let le : b + 1 ≤ length blocks = omega arith in
    let front : List (List ℕ) = take (b + 1) blocks in
    let size : length front ≡ b + 1 = length-take-le (b + 1) blocks le in
    let longer : length made ≡ length blocks + 1 = ap length grown ∙ length-insert blocks (b + 1) upper le in
    let there : b < length made = omega (arith, longer) in
    let old : block ≡ in_block blocks b = read_block blocks b block lt is in
    let same : read ≡ in_block blocks b = read_block made b read there seen ∙ ap (λ w. in_block w b) grown ∙ get_or-insert_below blocks (b + 1) upper [] b (omega arith) le in
    let rest : drop (b + 1) made ≡ upper ∷ drop (b + 1) blocks = ap (drop (b + 1)) grown ∙ drop_at front (upper ∷ drop (b + 1) blocks) (b + 1) size in
    record {
      longer = length-set made b lower ∙ longer;
      before = take-set-le b made b lower (omega arith) ∙ ap (take b) grown ∙ take-append-le b front (upper ∷ drop (b + 1) blocks) (omega arith) ∙ take-take b (b + 1) blocks (omega arith);
      lower = get_or-set_same made b lower [] there ∙ low ∙ ap (take half) same;
      upper = get_or-set_other made b (b + 1) lower [] (λ e. absurd (omega (arith, e))) ∙ ap (λ w. in_block w (b + 1)) grown
          ∙ get_or-insert_at blocks (b + 1) upper [] le ∙ high ∙ ap (drop half) old;
      after = drop-set-lt (b + 1 + 1) made b lower (omega arith) ∙ sym (drop-drop 1 (b + 1) made) ∙ ap (drop 1) rest;
    }

-- the order where a block was not changed
pub room_there : (blocks : List (List ℕ)) (b offset : ℕ) → b < length blocks → offset ≤ length (in_block blocks b) → length (in_block blocks b) < 512 → HasRoom blocks blocks b offset b offset
room_there blocks b offset lt le room = record { there = lt; within = le; room = room; front = refl; rest = refl }

module _ (old new : List (List ℕ)) (b offset half : ℕ) (lt : b < length old) (h : IsCutInTwo old new b half) where
  -- a offset of the lower half stands where it stood
  pub room_below : offset ≤ half → half ≤ length (in_block old b) → half < 512 → HasRoom old new b offset b offset
  room_below le fits small =
      let block : List ℕ = in_block old b in
      let size : length (take half block) ≡ half = length-take-le half block fits in
      let next : b + 1 < length new = omega (arith, h.longer) in
      let whole : drop offset (take half block) ++ drop half block ≡ drop offset block =
      sym (drop-append-le offset (take half block) (drop half block) (omega arith)) ∙ ap (drop offset) (take-append-drop half block) in
      record {
        there = omega (arith, h.longer);
        within = rw h.lower (omega arith);
        room = rw h.lower (omega arith);
        front = ap (λ w. concat w ++ take offset (in_block new b)) h.before ∙ ap (λ w. concat (take b old) ++ take offset w) h.lower ∙ ap (λ w. concat (take b old) ++ w) (take-take offset half block le);
        rest = ap (λ w. drop offset w ++ concat (drop (b + 1) new)) h.lower
            ∙ ap (λ w. drop offset (take half block) ++ w) (blocks_from new (b + 1) next ∙ ap (λ w. w ++ concat (drop (b + 1 + 1) new)) h.upper ∙ ap (λ w. drop half block ++ concat w) h.after)
            ∙ sym (append_assoc (drop offset (take half block)) (drop half block) (concat (drop (b + 1) old))) ∙ ap (λ w. w ++ concat (drop (b + 1) old)) whole;
      }

  -- a offset behind it stands in the upper half
  pub room_above : half < offset → offset ≤ length (in_block old b) → length (in_block old b) ≤ 512 → 0 < half → HasRoom old new b offset (b + 1) (offset - half)
  room_above gt le bounded some =
      let block : List ℕ = in_block old b in
      let size : length (drop half block) ≡ length block - half = length-drop half block in
      let there : b < length new = omega (arith, h.longer) in
      let sum : half + (offset - half) ≡ offset = omega arith in
      let low : take half block ++ take (offset - half) (drop half block) ≡ take offset block =
      ap (λ w. w ++ take (offset - half) (drop half block)) (sym (take-take half offset block (omega arith)))
      ∙ ap (λ w. take half (take offset block) ++ w) (sym (ap (λ k. drop half (take k block)) (sym sum) ∙ drop-take half (offset - half) block))
      ∙ take-append-drop half (take offset block) in
      record {
        there = omega (arith, h.longer);
        within = rw h.upper (omega arith);
        room = rw h.upper (omega arith);
        front = ap (λ w. concat w ++ take (offset - half) (in_block new (b + 1))) (take_more new b [] there)
            ∙ ap (λ w. w ++ take (offset - half) (in_block new (b + 1))) (concat-append (take b new) (in_block new b ∷ []))
            ∙ ap (λ w. (concat w ++ (in_block new b ++ [])) ++ take (offset - half) (in_block new (b + 1))) h.before
            ∙ ap (λ w. (concat (take b old) ++ (w ++ [])) ++ take (offset - half) (in_block new (b + 1))) h.lower
            ∙ ap (λ w. (concat (take b old) ++ (take half block ++ [])) ++ take (offset - half) w) h.upper
            ∙ ap (λ w. (concat (take b old) ++ w) ++ take (offset - half) (drop half block)) (append-nil (take half block))
            ∙ append_assoc (concat (take b old)) (take half block) (take (offset - half) (drop half block))
            ∙ ap (λ w. concat (take b old) ++ w) low;
        rest = ap (λ w. drop (offset - half) w ++ concat (drop (b + 1 + 1) new)) h.upper ∙ ap (λ w. drop (offset - half) (drop half block) ++ concat w) h.after
            ∙ ap (λ w. w ++ concat (drop (b + 1) old)) (drop-drop (offset - half) half block ∙ ap (λ k. drop k block) sum);
      }

-- blocks that have room at the place have the same order
pub room_same : (old new : List (List ℕ)) (b offset a c : ℕ) → b < length old → HasRoom old new b offset a c → concat new ≡ concat old
room_same old new b offset a c lt h = order_at new a c h.there ∙ ap (λ w. w ++ rest_from new a c) h.front ∙ ap (λ w. front_of old b offset ++ w) h.rest ∙ sym (order_at old b offset lt)
