-- The lines of hits, one by one, and a text as a JSON string.
use Rattle.std.proofs.Common.{◌≡◌, ◌<◌, ◌+◌, ◌++◌, ◌∷◌, ℕ, List, [], drop, get_or, length, sym, ap, ◌∙◌, arith}
use Rattle.std.proofs.lemmas.List.{append_assoc, append-nil, drop_more}
use Rattle.std.specs.Prelude.{Result, Ok, Err, OnOk, codes, decimal, is_ok, if◌then◌else◌}
use Rattle.std.specs.Fmt.{digits}
use Rattle.json.specs.Token.{Token, string}
use Rattle.json.specs.Print.{quoted, print, print_from}
use Rattle.sk_base.specs.declared.report.Ranked.{Ranked}
use Rattle.sk_base.specs.declared.report.Report.{Report}
use Rattle.sk_run.specs.Found.{hit_line, hit_lines}

-- what is written of the next hit is the first of what is left
pub next_line : (old new : List ℕ) (first i : ℕ) (hits : List Ranked) (hit : Ranked) → i < length hits → hit ≡ get_or hits i hit → new ≡ old ++ hit_line (first + i) hit
    → new ++ hit_lines (first + (i + 1)) (drop (i + 1) hits) ≡ old ++ hit_lines (first + i) (drop i hits)
next_line old new first i hits hit below at is =
    let next : first + (i + 1) ≡ (first + i) + 1 = omega arith in
    let left = drop (i + 1) hits in
    ap (λ xs. xs ++ hit_lines (first + (i + 1)) left) is
    ∙ append_assoc old (hit_line (first + i) hit) (hit_lines (first + (i + 1)) left)
    ∙ ap (λ rank. old ++ (hit_line (first + i) hit ++ hit_lines rank left)) next
    ∙ ap (λ h. old ++ hit_lines (first + i) (h ∷ left)) at
    ∙ sym (ap (λ xs. old ++ hit_lines (first + i) xs) (drop_more hits i hit below))

-- the first half of a found line, with these hits
abbrev pub first_half : List Ranked → Report → List ℕ
first_half hits report = codes "found hits=" ++ (decimal (length hits) ++ (codes " lower=" ++ (decimal report.lower ++ (codes " estimate=" ++ decimal report.estimate))))

-- a half is written, and then the other
pub two_halves : {E : Type 0} (result : Result (Unit {0}) E) (old middle new first rest : List ℕ) → OnOk result (new ≡ middle ++ rest) → middle ≡ old ++ first → OnOk result (new ≡ old ++ (first ++ rest))
two_halves (Ok x) old middle new first rest is half = is ∙ ap (λ xs. xs ++ rest) half ∙ append_assoc old first rest
two_halves (Err x) old middle new first rest is half = tt

-- one token is written, a string
pub one_string : (text items before : List ℕ) (written : List Token) → before ≡ [] → written ≡ string text ∷ [] → items ≡ before ++ print written → items ≡ quoted text
unfolding print_from
one_string text items before written none one is = is ∙ (λ i. none i ++ print (one i)) ∙ append-nil (quoted text)

-- three names with their numbers, one behind another
pub three_numbers : (old t1 t2 t3 a x b y c z : List ℕ) → t1 ≡ old ++ (a ++ x) → t2 ≡ t1 ++ (b ++ y) → t3 ≡ t2 ++ (c ++ z) → t3 ≡ old ++ (a ++ (x ++ (b ++ (y ++ (c ++ z)))))
three_numbers old t1 t2 t3 a x b y c z e1 e2 e3 =
    let seam : ((old ++ (a ++ x)) ++ (b ++ y)) ++ (c ++ z) ≡ old ++ (a ++ (x ++ (b ++ (y ++ (c ++ z))))) = simp append_assoc in
    e3 ∙ ap (λ t. t ++ (c ++ z)) (e2 ∙ ap (λ t. t ++ (b ++ y)) e1) ∙ seam

-- none were collapsed into a hit, or some
pub none_collapsed : (old new : List ℕ) (collapsed : ℕ) → collapsed ≡ 0 → new ≡ old ++ codes " collapsed=0 data=" → new ≡ old ++ (codes " collapsed=" ++ (decimal collapsed ++ codes " data="))
unfolding digits
none_collapsed old new collapsed none is = is ∙ ap (λ n. old ++ (codes " collapsed=" ++ (decimal n ++ codes " data="))) (sym none)

pub some_collapsed : (old middle new : List ℕ) (collapsed : ℕ) → middle ≡ old ++ (codes " collapsed=" ++ decimal collapsed) → new ≡ middle ++ codes " data=" → new ≡ old ++ (codes " collapsed=" ++ (decimal collapsed ++ codes " data="))
some_collapsed old middle new collapsed half is = is ∙ ap (λ t. t ++ codes " data=") half ∙ three old (codes " collapsed=") (decimal collapsed) (codes " data=")
  where
    three : (t a b c : List ℕ) → (t ++ (a ++ b)) ++ c ≡ t ++ (a ++ (b ++ c))
    three t a b c = simp append_assoc

-- the last pieces of a hit's line behind its weight
pub hit_pieces : {E : Type 0} (result : Result (Unit {0}) E) (old t3 t4 t5 new a x b y c z d w e p q f : List ℕ) → t3 ≡ old ++ (a ++ (x ++ (b ++ (y ++ (c ++ z)))))
    → t4 ≡ t3 ++ (d ++ (w ++ e)) → t5 ≡ t4 ++ p → p ≡ q → new ≡ (if is_ok result then t5 ++ f else t5)
    → OnOk result (new ≡ old ++ (a ++ (x ++ (b ++ (y ++ (c ++ (z ++ (d ++ (w ++ (e ++ (q ++ f)))))))))))
hit_pieces (Ok u) old t3 t4 t5 new a x b y c z d w e p q f e3 e4 e5 same last =
    let seam : ((old ++ (a ++ (x ++ (b ++ (y ++ (c ++ z)))))) ++ (d ++ (w ++ e))) ++ (q ++ f) ≡ old ++ (a ++ (x ++ (b ++ (y ++ (c ++ (z ++ (d ++ (w ++ (e ++ (q ++ f)))))))))) = simp append_assoc in
    let four = e4 ∙ ap (λ t. t ++ (d ++ (w ++ e))) e3 in
    let five : t5 ≡ t4 ++ q = e5 ∙ ap (λ r. t4 ++ r) same in
    last ∙ ap (λ t. t ++ f) five ∙ append_assoc t4 q f ∙ ap (λ t. t ++ (q ++ f)) four ∙ seam
hit_pieces (Err u) old t3 t4 t5 new a x b y c z d w e p q f e3 e4 e5 same last = tt
