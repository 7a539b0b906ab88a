-- How nodes in which a list leads are opened.
use Rattle.std.proofs.Common.{◌≡◌, ◌≤◌, ◌<◌, ◌+◌, ◌*◌, ◌^◌, ◌⊎◌, ◌++◌, ℕ, zero, suc, min, false, List, [], ◌∷◌, length, slice_index_or, Option, None, Some, inl, inr, refl, sym, subst, ap, ◌∙◌, arith, le_refl}
use Rattle.std.specs.Option.{option_map}
use Rattle.std.proofs.lemmas.Bool.{cases_lt}
use Rattle.std.proofs.lemmas.List.{length-append}
use Rattle.sk_base.specs.Numbers.{Docs, length_of}
use Rattle.sk_query.specs.declared.form.Form.{Form}
use Rattle.sk_query.specs.declared.query.Query.{Query}
use Rattle.sk_query.specs.Trees as Trees
use Rattle.sk_query.specs.Trees.{query_view, queries_view}
use Rattle.sk_query.specs.Fits.{leaves_in}
use Rattle.sk_model.specs.Bounds.{least_length, static_count}
use Rattle.sk_model.specs.Sharp.{terms_in, led_by_first, of_two, rare_lists, rare_readings}
use Rattle.sk_index.specs.Indexed.{Indexed}
use Rattle.sk_nodes.specs.declared.top.Top.{Top}
use Rattle.sk_nodes.specs.Leaves.{entries_of, head_of}
use Rattle.sk_nodes.specs.Shapes.{Shape, ended, leaf, pair}
use Rattle.sk_tree.specs.Opened.{part_count, is_nest, others_of}
use Rattle.sk_nodes.specs.Flat.{IsNest}
use Rattle.sk_tree.specs.Nests.{SplitsTerms}
use Rattle.sk_nodes.specs.Led.{IsLone, lead_head, lead_unread, owed, follow_room, led_room, IsAtLead, MayFollow, IsLed, Advances}
use Rattle.sk_nodes.specs.Moved.{with_lead, nest_behind, Accounts}
use Rattle.sk_tree.specs.OpenedLed.{first_length, last_length, lead_length, CanLead, SplitsOff, IsOrdered, SplitsLed, OpensFollowing, OpensLed, OpensRare}
use Rattle.sk_nodes.specs.Begun.{OpensLone}
use Rattle.sk_tree.proofs.OpenLaws.{joined}
use Rattle.sk_tree.proofs.NestLaws.{InOrder, in_order}
use Rattle.sk_nodes.proofs.RareLaws.{owed_le, owed_past}

-- ---- the lengths of lists

least-append : (x : List ℕ) (xs : List (List ℕ)) (z : List ℕ) (docs : Docs) → least_length ((x ∷ xs) ++ (z ∷ [])) docs ≡ min (least_length (x ∷ xs) docs) (length_of z docs)
least-append x [] z docs = refl
least-append x (y ∷ ys) z docs = let rest = least-append y ys z docs in omega (arith, rest)

least_first : (x : List ℕ) (xs : List (List ℕ)) (docs : Docs) → least_length (x ∷ xs) docs ≤ length_of x docs
least_first x [] docs = le_refl (length_of x docs)
least_first x (y ∷ ys) docs = omega arith

least_last : (x : List ℕ) (xs : List (List ℕ)) (docs : Docs) → least_length (x ∷ xs) docs ≤ last_length (x ∷ xs) docs
least_last x [] docs = le_refl (length_of x docs)
least_last x (y ∷ ys) docs = let rest = least_last y ys docs in omega (arith, rest)

last-append : (xs : List (List ℕ)) (z : List ℕ) (docs : Docs) → last_length (xs ++ (z ∷ [])) docs ≡ length_of z docs
last-append [] z docs = refl
last-append (x ∷ []) z docs = refl
last-append (x ∷ y ∷ ys) z docs = last-append (y ∷ ys) z docs

rare-append : (xs ys : List (List ℕ)) (m : ℕ) (docs : Docs) → rare_readings (xs ++ ys) m docs ≡ rare_readings xs m docs + rare_readings ys m docs
rare-append [] ys m docs = omega arith
rare-append (x ∷ xs) ys m docs = let rest = rare-append xs ys m docs in omega (arith, rest)

pub split_rare : (lists first second : List (List ℕ)) (m : ℕ) (docs : Docs) → (lists ≡ first ++ second) ⊎ (lists ≡ second ++ first) → rare_readings lists m docs ≡ rare_readings first m docs + rare_readings second m docs
split_rare lists first second m docs (inl e) = ap (λ ts. rare_readings ts m docs) e ∙ rare-append first second m docs
split_rare lists first second m docs (inr e) = let whole = ap (λ ts. rare_readings ts m docs) e ∙ rare-append second first m docs in omega (arith, whole)

-- ---- how terms are split

one_second : (second : List (List ℕ)) → length second ≡ 1 → (P : List (List ℕ) → Type 0) → ((z : List ℕ) → P (z ∷ [])) → P second
one_second [] e P h = absurd (omega (arith, e))
one_second (z ∷ []) e P h = h z
one_second (z ∷ y ∷ ys) e P h = absurd (omega (arith, e))

-- the shortest of an and is among the first ones
and_lead : (first : List (List ℕ)) (z : List ℕ) (docs : Docs) → 0 < length first → first_length (first ++ (z ∷ [])) docs ≤ last_length (first ++ (z ∷ [])) docs → least_length first docs ≡ least_length (first ++ (z ∷ [])) docs
and_lead [] z docs some ordered = absurd (omega (arith, some))
and_lead (x ∷ xs) z docs some ordered =
    let whole = least-append x xs z docs in
    let one = least_first x xs docs in
    let last = last-append (x ∷ xs) z docs in
    omega (arith, whole, one, last, ordered)

-- the first one having been put behind
and_turned : (z : List ℕ) (others : List (List ℕ)) (docs : Docs) → 0 < length others → last_length (z ∷ others) docs < length_of z docs → least_length others docs ≡ least_length (z ∷ others) docs
and_turned z [] docs some lt = absurd (omega (arith, some))
and_turned z (x ∷ xs) docs some lt = let less = least_last x xs docs in omega (arith, less, lt)

first-append : (first second : List (List ℕ)) (docs : Docs) → 0 < length first → first_length (first ++ second) docs ≡ first_length first docs
first-append [] second docs some = absurd (omega (arith, some))
first-append (x ∷ xs) second docs some = refl

-- in the order of the parts
ordered_led : (form : Form) (first second : List (List ℕ)) (docs : Docs) → 0 < length first → 0 < length second → length first + length second ≤ 1024 → SplitsOff form (length first + length second) (length first)
    → CanLead form (first ++ second) → IsOrdered form (first ++ second) docs → CanLead form first × ((lead_length form first docs ≡ lead_length form (first ++ second) docs) × ((form ≡ Form.AndNot) ⊎ (length second ≡ 1)))
ordered_led Form.And first second docs some more small off can ordered =
    let one : length second ≡ 1 = let at = off small in omega (arith, at) in
    (tt, (one_second second one (λ ts. first_length (first ++ ts) docs ≤ last_length (first ++ ts) docs → least_length first docs ≡ least_length (first ++ ts) docs) (λ z ordered. and_lead first z docs some ordered) ordered, inr one))
ordered_led Form.Filter first second docs some more small off can ordered = (tt, (sym (first-append first second docs some), inr (let at = off small in omega (arith, at))))
ordered_led Form.AndNot first second docs some more small off can ordered = (tt, (sym (first-append first second docs some), inl refl))
ordered_led Form.AndMaybe first second docs some more small off can ordered =
    let whole = length-append first second in
    (omega (arith, off), (sym (first-append first second docs some), inr (omega (arith, off, whole, can, more))))
ordered_led Form.Or first second docs some more small off can ordered = absurd can
ordered_led Form.Xor first second docs some more small off can ordered = absurd can
ordered_led Form.Max first second docs some more small off can ordered = absurd can

-- how many terms there are
pub terms_count : (ts : Trees.Trees) (lists : List (List ℕ)) → terms_in ts ≡ Some lists → (part_count ts ≡ length lists) × (leaves_in ts ≡ length lists)
terms_count Trees.no_trees lists e = by lists e
  where
    by : (lists : List (List ℕ)) → ◌≡◌ {A = Option (List (List ℕ))} (Some []) (Some lists) → (0 ≡ length lists) × (0 ≡ length lists)
    by [] e = (refl, refl)
    by (x ∷ xs) e = cc
terms_count (Trees.tree (Trees.term t) ts) lists e = by (terms_in ts) refl e (terms_count ts)
  where
    some : (xs : List (List ℕ)) → ◌≡◌ {A = Option (List (List ℕ))} (Some (t ∷ xs)) (Some lists) → t ∷ xs ≡ lists
    some xs e = cc

    more : (xs : List (List ℕ)) → t ∷ xs ≡ lists → (part_count ts ≡ length xs) × (leaves_in ts ≡ length xs) → (1 + part_count ts ≡ length lists) × (1 + leaves_in ts ≡ length lists)
    more xs e rest = (omega (arith, ap length e, rest.0), omega (arith, ap length e, rest.1))

    by : (o : Option (List (List ℕ))) → terms_in ts ≡ o → option_map (λ more. t ∷ more) o ≡ Some lists → ((xs : List (List ℕ)) → terms_in ts ≡ Some xs → (part_count ts ≡ length xs) × (leaves_in ts ≡ length xs))
        → (1 + part_count ts ≡ length lists) × (1 + leaves_in ts ≡ length lists)
    by None e f rest = cc
    by (Some xs) e f rest = more xs (some xs f) (rest xs e)
terms_count (Trees.tree _ ts) lists e = cc

-- terms that were split in order
pub splits_led : (form : Form) (whole fs bs : Trees.Trees) (lists : List (List ℕ)) (docs : Docs) (n : ℕ) → whole ≡ joined fs bs → terms_in whole ≡ Some lists → leaves_in whole ≤ 1024 → part_count fs ≡ n → 0 < part_count fs → 0 < part_count bs
    → SplitsOff form (part_count whole) n → CanLead form lists → IsOrdered form lists docs → SplitsLed form lists docs (terms_in fs) (terms_in bs)
splits_led form whole fs bs lists docs n parts terms small is some more off can ordered = by (in_order fs bs lists (ap terms_in (sym parts) ∙ terms))
  where
    by : InOrder lists (terms_in fs) (terms_in bs) → SplitsLed form lists docs (terms_in fs) (terms_in bs)
    by split =
        let all = terms_count whole lists terms in
        let one = terms_count fs split.first split.front_is in
        let two = terms_count bs split.second split.back_is in
        let long = ap length split.whole ∙ length-append split.first split.second in
        let led = ordered_led form split.first split.second docs (omega (arith, one.0, some)) (omega (arith, two.0, more)) (omega (arith, long, all.1, small))
        (subst (λ m. SplitsOff form m (length split.first)) long (subst (λ m. SplitsOff form (length lists) m) (sym is ∙ one.0) (subst (λ m. SplitsOff form m n) all.0 off)))
        (subst (λ ts. CanLead form ts) split.whole can) (subst (λ ts. IsOrdered form ts docs) split.whole ordered) in
        record {
          first = split.first;
          second = split.second;
          front_is = split.front_is;
          back_is = split.back_is;
          whole = inl split.whole;
          can = led.0;
          lead = led.1.0 ∙ ap (λ ts. lead_length form ts docs) (sym split.whole);
          alone = led.1.1;
        }

-- an and whose first part is put behind the others
pub turns_led : (whole fs bs : Trees.Trees) (lists : List (List ℕ)) (docs : Docs) → whole ≡ joined fs bs → terms_in whole ≡ Some lists → part_count fs ≡ 1 → 0 < part_count bs → last_length lists docs < first_length lists docs
    → SplitsLed Form.And lists docs (terms_in bs) (terms_in fs)
turns_led whole fs bs lists docs parts terms is more lt = by (in_order fs bs lists (ap terms_in (sym parts) ∙ terms))
  where
    turned : (first second : List (List ℕ)) → length first ≡ 1 → 0 < length second → lists ≡ first ++ second → least_length second docs ≡ least_length (first ++ second) docs
    turned first second alone some e =
        one_second first alone (λ ts. lists ≡ ts ++ second → least_length second docs ≡ least_length (ts ++ second) docs)
        (λ z e. and_turned z second docs some (subst (λ ts. last_length ts docs < first_length ts docs) e lt)) e

    by : InOrder lists (terms_in fs) (terms_in bs) → SplitsLed Form.And lists docs (terms_in bs) (terms_in fs)
    by split =
        let one = terms_count fs split.first split.front_is in
        let two = terms_count bs split.second split.back_is in
        let alone : length split.first ≡ 1 = omega (arith, one.0, is) in
        record {
          first = split.second;
          second = split.first;
          front_is = split.back_is;
          back_is = split.front_is;
          whole = inr split.whole;
          can = tt;
          lead = turned split.first split.second alone (omega (arith, two.0, more)) split.whole ∙ ap (λ ts. least_length ts docs) (sym split.whole);
          alone = inr alone;
        }

-- the first of terms, and those behind it
record HeadTerm (t : Trees.Tree) (ts : Trees.Trees) (lists : List (List ℕ)) : Type 0 where
  term : List ℕ
  rest : List (List ℕ)
  is : t ≡ Trees.term term
  whole : lists ≡ term ∷ rest
  more : terms_in ts ≡ Some rest

head_term : (t : Trees.Tree) (ts : Trees.Trees) (lists : List (List ℕ)) → terms_in (Trees.tree t ts) ≡ Some lists → HeadTerm t ts lists
head_term (Trees.term x) ts lists e = by (terms_in ts) refl e
  where
    some : (xs : List (List ℕ)) → ◌≡◌ {A = Option (List (List ℕ))} (Some (x ∷ xs)) (Some lists) → lists ≡ x ∷ xs
    some xs e = cc

    by : (o : Option (List (List ℕ))) → terms_in ts ≡ o → option_map (λ more. x ∷ more) o ≡ Some lists → HeadTerm (Trees.term x) ts lists
    by None f e = cc
    by (Some xs) f e = record { term = x; rest = xs; is = refl; whole = some xs e; more = f }
head_term _ ts lists e = cc

last_more : (x : List ℕ) (xs : List (List ℕ)) (docs : Docs) → 0 < length xs → last_length (x ∷ xs) docs ≡ last_length xs docs
last_more x [] docs some = absurd (omega (arith, some))
last_more x (y ∷ ys) docs some = refl

-- what is counted of the first and of the last part is how long their lists are
pub static_first : (qs : List Query) (lists : List (List ℕ)) (docs : Docs) (q d : Query) → 0 < length qs → q ≡ slice_index_or qs 0 d → terms_in (queries_view qs) ≡ Some lists → static_count (query_view q) docs ≡ first_length lists docs
static_first [] lists docs q d some is e = absurd (omega (arith, some))
static_first (p ∷ qs) lists docs q d some is e =
    let h = head_term (query_view p) (queries_view qs) lists e in
    ap (λ x. static_count (query_view x) docs) is ∙ ap (λ t. static_count t docs) h.is ∙ ap (λ ts. first_length ts docs) (sym h.whole)

pub static_last : (qs : List Query) (lists : List (List ℕ)) (docs : Docs) (q d : Query) (n : ℕ) → n + 1 ≡ length qs → q ≡ slice_index_or qs n d → terms_in (queries_view qs) ≡ Some lists → static_count (query_view q) docs ≡ last_length lists docs
static_last [] lists docs q d n long is e = absurd (omega (arith, long))
static_last (p ∷ []) lists docs q d zero long is e =
    let h = head_term (query_view p) Trees.no_trees lists e in
    ap (λ x. static_count (query_view x) docs) is ∙ ap (λ t. static_count t docs) h.is ∙ ap (λ ts. last_length (h.term ∷ ts) docs) (none h.rest h.more) ∙ ap (λ ts. last_length ts docs) (sym h.whole)
  where
    none : (rest : List (List ℕ)) → ◌≡◌ {A = Option (List (List ℕ))} (Some []) (Some rest) → [] ≡ rest
    none rest e = cc
static_last (p ∷ []) lists docs q d (suc n) long is e = absurd (omega (arith, long))
static_last (p ∷ r ∷ qs) lists docs q d zero long is e = absurd (omega (arith, long))
static_last (p ∷ r ∷ qs) lists docs q d (suc n) long is e =
    let h = head_term (query_view p) (queries_view (r ∷ qs)) lists e in
    let count = terms_count (queries_view (r ∷ qs)) h.rest h.more in
    static_last (r ∷ qs) h.rest docs q d n (omega (arith, long)) is h.more ∙ sym (last_more h.term h.rest docs (omega (arith, count.0))) ∙ ap (λ ts. last_length ts docs) (sym h.whole)

-- ---- a leaf, or nothing

lone_nest : (s : Shape) → IsLone s → IsNest Form.Or s
lone_nest ended h = tt
lone_nest (leaf l) h = tt
lone_nest _ h = absurd h

lone_led : (i : Indexed) (s : Shape) → IsLone s → IsLed i s × (led_room i s ≡ lead_unread i s)
lone_led i ended h = (tt, refl)
lone_led i (leaf l) h = (tt, refl)
lone_led i _ h = absurd h

owed_so : (head own unread m : ℕ) → unread ≤ m → (head < 2 ^ 32 → unread < m) → owed head own + 128 * unread ≤ 128 * m
owed_so head own unread m within begun =
    elim (cases_lt head (2 ^ 32)) as (λ _. owed head own + 128 * unread ≤ 128 * m) [
      | inl lt ↦ let le = owed_le head own in omega (arith, le, begun lt)
      | inr up ↦ let none = owed_past head own up in omega (arith, none, within)
    ]

lone_follow : (i : Indexed) (s : Shape) (head unread m long before after : ℕ) → IsLone s → unread ≤ m → (head < 2 ^ 32 → unread < m) → after ≤ before + 1 → after + lead_unread i s ≤ before + long
    → after + follow_room i head unread s ≤ before + min long (128 * (m + 1))
lone_follow i ended head unread m long before after h within begun few paid = omega (arith, few, paid)
lone_follow i (leaf l) head unread m long before after h within begun few paid = let less = owed_so head (head_of (entries_of i l)) unread m within begun in omega (arith, less, few, paid)
lone_follow i _ head unread m long before after h within begun few paid = absurd h

pub lone_following : (i : Indexed) (t : Top) (s : Shape) (term : List ℕ) (before after : ℕ) → OpensLone i t s (length_of term i.live.documents) before after → OpensFollowing i s (term ∷ []) before after
lone_following i t s term before after opens = record {
  nest = lone_nest s opens.lone;
  lone = λ e. opens.lone;
  account = λ head unread m within begun.
      let one = lone_follow i s head unread m (length_of term i.live.documents) before after opens.lone within begun opens.few opens.paid in
      omega (arith, one);
}

lead_one : (form : Form) (term : List ℕ) (docs : Docs) → CanLead form (term ∷ []) → lead_length form (term ∷ []) docs ≡ length_of term docs
lead_one Form.And term docs can = refl
lead_one Form.AndNot term docs can = refl
lead_one Form.Filter term docs can = refl
lead_one Form.AndMaybe term docs can = refl
lead_one Form.Or term docs can = absurd can
lead_one Form.Xor term docs can = absurd can
lead_one Form.Max term docs can = absurd can

pub lone_leads : (i : Indexed) (form : Form) (t : Top) (s : Shape) (term : List ℕ) (before after : ℕ) → CanLead form (term ∷ []) → OpensLone i t s (length_of term i.live.documents) before after → OpensLed i form t s (term ∷ []) before after
lone_leads i form t s term before after can opens =
    let long = lead_one form term i.live.documents can in
    let led = lone_led i s opens.lone in
    record {
      led = led.0;
      at = opens.at;
      within = omega (arith, opens.within, long);
      begun = λ lt. let less = opens.begun lt in omega (arith, less, long);
      account =
          subst (λ m. after + led_room i s ≤ before + rare_readings (term ∷ []) m i.live.documents) (sym long)
          (omega (arith, led.1, opens.paid));
    }

pub none_lone : (i : Indexed) (t : Top) (s : Shape) (long spent : ℕ) → t.head ≡ 2 ^ 32 → s ≡ ended → OpensLone i t s long spent spent
none_lone i t s long spent head is =
    let none : lead_unread i s ≡ 0 = ap (lead_unread i) is in
    let end : lead_head i s ≡ 2 ^ 32 = ap (lead_head i) is in
    record {
      lone = subst (λ (s : Shape). IsLone s) (sym is) tt;
      at = inr head;
      few = omega arith;
      paid = omega (arith, none);
      within = omega (arith, none);
      begun = λ lt. absurd (omega (arith, lt, end));
    }

-- ---- two sides

-- an or of two sides that follow
pub pair_following : (i : Indexed) (form : Form) (ta : Top) (a : Shape) (tb : Top) (b s : Shape) (lists first second : List (List ℕ)) (s0 s1 s2 s3 : ℕ) → form ≡ Form.Or → 0 < length first → 0 < length second
    → (lists ≡ first ++ second) ⊎ (lists ≡ second ++ first) → OpensFollowing i a first s0 s1 → OpensFollowing i b second s1 s2 → Accounts i 0 0 s2 s3 (pair form ta a tb b) s → OpensFollowing i s lists s0 s3
pair_following i form ta a tb b s lists first second s0 s1 s2 s3 is some more whole one two accounts = record {
  nest = ((accounts.keeps (nest_behind 0 0)).kind (refl, (is, (one.nest, two.nest)))).1;
  lone = λ e. absurd (long whole e);
  account = λ head unread m within begun.
      let p = one.account head unread m within begun in
      let q = two.account head unread m within begun in
      let r = (accounts.keeps (nest_behind head unread)).paid (refl, (is, (one.nest, two.nest))) (inr refl) in
      let all = split_rare lists first second m i.live.documents whole in
      omega (arith, p, q, r, all);
}
  where
    long : (lists ≡ first ++ second) ⊎ (lists ≡ second ++ first) → length lists ≡ 1 → ⊥
    long (inl f) e = omega (arith, e, ap length f, length-append first second, some, more)
    long (inr f) e = omega (arith, e, ap length f, length-append second first, some, more)

may_follow : (form : Form) (first second : List (List ℕ)) (b : Shape) → CanLead form first → (form ≡ Form.AndNot) ⊎ (length second ≡ 1) → IsNest Form.Or b → (length second ≡ 1 → IsLone b) → MayFollow form b
may_follow form first second b can (inl e) nest lone = subst (λ (f : Form). MayFollow f b) (sym e) nest
may_follow form first second b can (inr e) nest lone = by form can
  where
    by : (form : Form) → CanLead form first → MayFollow form b
    by Form.And can = lone e
    by Form.AndMaybe can = lone e
    by Form.Filter can = lone e
    by Form.AndNot can = nest
    by Form.Or can = absurd can
    by Form.Xor can = absurd can
    by Form.Max can = absurd can

still_begun : (h u h2 u2 m : ℕ) → Advances h u h2 u2 → u ≤ m → (h < 2 ^ 32 → u < m) → h2 < 2 ^ 32 → u2 < m
still_begun h u h2 u2 m (inl less) within begun lt = omega (arith, less, within)
still_begun h u h2 u2 m (inr (same, inl e)) within begun lt = let b = begun (omega (arith, lt, e)) in omega (arith, same, b)
still_begun h u h2 u2 m (inr (same, inr e)) within begun lt = absurd (omega (arith, lt, e))

still_within : (h u h2 u2 m : ℕ) → Advances h u h2 u2 → u ≤ m → u2 ≤ m
still_within h u h2 u2 m (inl less) within = omega (arith, less, within)
still_within h u h2 u2 m (inr h3) within = omega (arith, h3.0, within)

-- a side that leads, and one that follows it
pub pair_leads : (i : Indexed) (form : Form) (ta : Top) (a : Shape) (tb : Top) (b : Shape) (t : Top) (s : Shape) (lists : List (List ℕ)) (front back : Option (List (List ℕ))) (s0 s1 s2 s3 : ℕ)
    → (split : SplitsLed form lists i.live.documents front back) → OpensLed i form ta a split.first s0 s1 → OpensFollowing i b split.second s1 s2 → Accounts i 0 0 s2 s3 (pair form ta a tb b) s
    → (IsLed i (pair form ta a tb b) → IsAtLead i t s) → OpensLed i form t s lists s0 s3
pair_leads i form ta a tb b t s lists front back s0 s1 s2 s3 split one two accounts at =
    let docs = i.live.documents in
    let m = lead_length form split.first docs in
    let led : IsLed i (pair form ta a tb b) = (may_follow form split.first split.second b split.can split.alone two.nest two.lone, (one.at, one.led)) in
    let p = one.account in
    let q = two.account (lead_head i a) (lead_unread i a) m one.within one.begun in
    let r = (accounts.keeps with_lead).paid led tt in
    let all = split_rare lists split.first split.second m docs split.whole in
    let on = accounts.advances led in
    record {
      led = (accounts.keeps with_lead).kind led;
      at = at led;
      within = subst (λ n. lead_unread i s ≤ n) split.lead (still_within (lead_head i a) (lead_unread i a) (lead_head i s) (lead_unread i s) m on one.within);
      begun = λ lt. subst (λ n. lead_unread i s < n) split.lead (still_begun (lead_head i a) (lead_unread i a) (lead_head i s) (lead_unread i s) m on one.within one.begun lt);
      account = subst (λ n. s3 + led_room i s ≤ s0 + rare_readings lists n docs) split.lead (omega (arith, p, q, r, all));
    }

-- ---- a query in which a list leads

some_pair : (xs lists : List (List ℕ)) (k m : ℕ) → ◌≡◌ {A = Option (List (List ℕ) × ℕ)} (Some (xs, k)) (Some (lists, m)) → (xs ≡ lists) × (k ≡ m)
some_pair xs lists k m e = let same : ◌≡◌ {A = List (List ℕ) × ℕ} (xs, k) (lists, m) = cc in (ap (λ (p : List (List ℕ) × ℕ). p.0) same, ap (λ (p : List (List ℕ) × ℕ). p.1) same)

pub parts_rare : (query : Trees.Tree) (form : Form) (ts : Trees.Trees) (lists : List (List ℕ)) (m : ℕ) (docs : Docs) → query ≡ Trees.parts form ts → rare_lists query docs ≡ Some (lists, m)
    → CanLead form lists × ((terms_in ts ≡ Some lists) × (m ≡ lead_length form lists docs))
parts_rare query form ts lists m docs is e = by form (terms_in ts) refl (ap (λ q. rare_lists q docs) (sym is) ∙ e)
  where
    first : (o : Option (List (List ℕ))) → terms_in ts ≡ o → led_by_first o docs ≡ Some (lists, m) → (terms_in ts ≡ Some lists) × (m ≡ first_length lists docs)
    first None f e = cc
    first (Some []) f e = cc
    first (Some (t ∷ ts)) f e = let same = some_pair (t ∷ ts) lists (length_of t docs) m e in (f ∙ ap Some same.0, sym same.1 ∙ ap (λ ls. first_length ls docs) same.0)

    two : (o : Option (List (List ℕ))) → terms_in ts ≡ o → led_by_first (of_two o) docs ≡ Some (lists, m) → (length lists ≤ 2) × ((terms_in ts ≡ Some lists) × (m ≡ first_length lists docs))
    two None f e = cc
    two (Some []) f e = cc
    two (Some (t ∷ [])) f e = cc
    two (Some (t ∷ u ∷ [])) f e =
        let same = some_pair (t ∷ u ∷ []) lists (length_of t docs) m e in
        (omega (arith, ap length same.0), (f ∙ ap Some same.0, sym same.1 ∙ ap (λ ls. first_length ls docs) same.0))
    two (Some (t ∷ u ∷ v ∷ ts)) f e = cc

    least : (o : Option (List (List ℕ))) → terms_in ts ≡ o → option_map {U = List (List ℕ) × ℕ} (λ ls. (ls, least_length ls docs)) o ≡ Some (lists, m) → (terms_in ts ≡ Some lists) × (m ≡ least_length lists docs)
    least None f e = cc
    least (Some xs) f e = let same = some_pair xs lists (least_length xs docs) m e in (f ∙ ap Some same.0, sym same.1 ∙ ap (λ ls. least_length ls docs) same.0)

    by : (form : Form) (o : Option (List (List ℕ))) → terms_in ts ≡ o → rare_lists (Trees.parts form ts) docs ≡ Some (lists, m) → CanLead form lists × ((terms_in ts ≡ Some lists) × (m ≡ lead_length form lists docs))
    by Form.And o f e = (tt, least (terms_in ts) refl e)
    by Form.AndNot o f e = (tt, first (terms_in ts) refl e)
    by Form.Filter o f e = (tt, first (terms_in ts) refl e)
    by Form.AndMaybe o f e = two (terms_in ts) refl e
    by Form.Or o f e = cc
    by Form.Xor o f e = cc
    by Form.Max o f e = cc

pub rare_opened : (i : Indexed) (form : Form) (t : Top) (s : Shape) (lists : List (List ℕ)) (m before after : ℕ) → m ≡ lead_length form lists i.live.documents → OpensLed i form t s lists before after
    → OpensRare i t s (rare_readings lists m i.live.documents) before after
rare_opened i form t s lists m before after e opens = record {
  led = opens.led;
  at = opens.at;
  account = subst (λ n. after + led_room i s ≤ before + rare_readings lists n i.live.documents) (sym e) opens.account;
}

pub named_lone : (i : Indexed) (t : Top) (s : Shape) (m n before after : ℕ) → m ≡ n → OpensLone i t s m before after → OpensLone i t s n before after
named_lone i t s m n before after e opens = subst (λ k. OpensLone i t s k before after) e opens

pub term_lone : (i : Indexed) (t : Top) (s : Shape) (query : Trees.Tree) (x y : List ℕ) (before after : ℕ) → query ≡ Trees.term x → query ≡ Trees.term y → OpensLone i t s (length_of x i.live.documents) before after → OpensLone i t s (length_of y i.live.documents) before after
term_lone i t s query x y before after e f opens = named_lone i t s (length_of x i.live.documents) (length_of y i.live.documents) before after (ap (λ u. length_of u i.live.documents) (same (sym e ∙ f))) opens
  where
    same : Trees.term x ≡ Trees.term y → x ≡ y
    same e = cc

-- the parts of a node that leads, and of one that follows
pub split_leads : (i : Indexed) (form other : Form) (ta : Top) (a : Shape) (tb : Top) (b : Shape) (t : Top) (s : Shape) (lists : List (List ℕ)) (front back : Option (List (List ℕ))) (s0 s1 s2 s3 : ℕ) → CanLead form lists → other ≡ others_of form
    → ((xs : List (List ℕ)) → CanLead form xs → front ≡ Some xs → OpensLed i form ta a xs s0 s1)
    → ((ys : List (List ℕ)) → (other ≡ Form.Or) ⊎ (length ys ≡ 1) → back ≡ Some ys → OpensFollowing i b ys s1 s2)
    → Accounts i 0 0 s2 s3 (pair form ta a tb b) s → (IsLed i (pair form ta a tb b) → IsAtLead i t s) → SplitsLed form lists i.live.documents front back → OpensLed i form t s lists s0 s3
split_leads i form other ta a tb b t s lists front back s0 s1 s2 s3 can is one two accounts at split =
    pair_leads i form ta a tb b t s lists front back s0 s1 s2 s3 split (one split.first split.can split.front_is) (two split.second (alone split.alone) split.back_is) accounts at
  where
    alone : (form ≡ Form.AndNot) ⊎ (length split.second ≡ 1) → (other ≡ Form.Or) ⊎ (length split.second ≡ 1)
    alone (inl e) = inl (is ∙ ap others_of e)
    alone (inr e) = inr e

pub split_follows : (i : Indexed) (form other : Form) (ta : Top) (a : Shape) (tb : Top) (b s : Shape) (fs bs : Trees.Trees) (lists : List (List ℕ)) (s0 s1 s2 s3 : ℕ) → (form ≡ Form.Or) ⊎ (length lists ≡ 1) → other ≡ others_of form → 0 < part_count fs → 0 < part_count bs
    → ((xs : List (List ℕ)) → (form ≡ Form.Or) ⊎ (length xs ≡ 1) → terms_in fs ≡ Some xs → OpensFollowing i a xs s0 s1)
    → ((ys : List (List ℕ)) → (other ≡ Form.Or) ⊎ (length ys ≡ 1) → terms_in bs ≡ Some ys → OpensFollowing i b ys s1 s2)
    → Accounts i 0 0 s2 s3 (pair form ta a tb b) s → SplitsTerms lists (terms_in fs) (terms_in bs) → OpensFollowing i s lists s0 s3
split_follows i form other ta a tb b s fs bs lists s0 s1 s2 s3 so is some more one two accounts split = by so
  where
    first_some : 0 < length split.first
    first_some = let n = terms_count fs split.first split.front_is in omega (arith, n.0, some)

    second_some : 0 < length split.second
    second_some = let n = terms_count bs split.second split.back_is in omega (arith, n.0, more)

    long : (lists ≡ split.first ++ split.second) ⊎ (lists ≡ split.second ++ split.first) → length lists ≡ 1 → ⊥
    long (inl f) e = omega (arith, e, ap length f, length-append split.first split.second, first_some, second_some)
    long (inr f) e = omega (arith, e, ap length f, length-append split.second split.first, first_some, second_some)

    by : (form ≡ Form.Or) ⊎ (length lists ≡ 1) → OpensFollowing i s lists s0 s3
    by (inl e) =
        pair_following i form ta a tb b s lists split.first split.second s0 s1 s2 s3 e first_some second_some split.whole
        (one split.first (inl e) split.front_is) (two split.second (inl (is ∙ ap others_of e)) split.back_is) accounts
    by (inr e) = absurd (long split.whole e)

-- an xor of three parts or more follows nothing
pub xor_follows : (form : Form) (ts : Trees.Trees) (lists : List (List ℕ)) → is_nest form (part_count ts) ≡ false → (form ≡ Form.Or) ⊎ (length lists ≡ 1) → terms_in ts ≡ Some lists → ⊥
xor_follows form ts lists three (inl is) terms = other (ap (λ f. is_nest f (part_count ts)) (sym is) ∙ three)
  where
    other : is_nest Form.Or (part_count ts) ≡ false → ⊥
    other e = cc
xor_follows form ts lists three (inr one) terms = alone form (ap (is_nest form) (sym one ∙ sym (terms_count ts lists terms).0) ∙ three)
  where
    alone : (form : Form) → is_nest form 1 ≡ false → ⊥
    alone Form.And e = cc
    alone Form.Or e = cc
    alone Form.Xor e = cc
    alone Form.Max e = cc
    alone Form.AndNot e = cc
    alone Form.AndMaybe e = cc
    alone Form.Filter e = cc
