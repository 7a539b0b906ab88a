-- What the tests of a row leave of the numbers and texts of a shape.
use Rattle.std.proofs.Common.{◌≡◌, ◌≤◌, ◌+◌, ◌&&◌, ℕ, if◌then◌else◌, nat_le, List, [], ◌∷◌, length, codes, Option, Some, None, IfSome, is_some, option_map, subst}
use Rattle.std.specs.Option.{option_and_then}
use Rattle.std.proofs.lemmas.Bool.{leb-true}
use Rattle.sk_base.proofs.Tests.{first_so, second_so}
use Rattle.serde_json.specs.Data.{Data}
use Rattle.serde_json.specs.Find.{get, as_str, as_object}
use Rattle.sk_base.specs.declared.find.Ask.{Ask}
use Rattle.sk_base.specs.declared.find.Options.{Options}
use Rattle.sk_base.specs.Commands.{FitsTurns}
use Rattle.sk_base.specs.Finds.{FitsAsk}
use Rattle.sk_base.specs.Records.{most_bytes}
use Rattle.sk_json.specs.Values.{has, has_only, text_at, whole_number, between, optional_text, optional_number, bytes_in}
use Rattle.sk_record.specs.Shapes.{Given, CollapsedOn, Wanted, Counted, Flight, opening, turning, closing, dropping, Shape, schema, add, replace, replace_by, delete, delete_by, seek, show, facets, flight}
use Rattle.sk_record.specs.Options.{query_at, join_at, scheme_at, page_at, check_at, cutoff_at, falling_at, sorted_at, collapsed_on, collapsed_by, collapsed_at, options_at, wanted_at, option_names, find_row, tree_row}
use Rattle.sk_record.specs.Rows.{values_object, given_at, id_member, pair_at, add_row, replace_row, replace_by_row, delete_row, delete_by_row, show_row, told_at, facets_row, number_at, times_at, open_row, turn_row, close_row, drop_row, later_shape}
use Rattle.sk_record.proofs.Choices.{some_is, chained, mapped, guarded, either}

-- the query, the page and the collapsing are in their ranges
pub record FitsWanted (wanted : Wanted) : Type 0 where
  pub ask : FitsAsk wanted.ask
  pub page : wanted.options.first + wanted.options.size ≤ 100000
  pub collapsed : IfSome wanted.collapsed (λ c. 1 ≤ c.max)

-- the text is not too long, and not too many values are told
pub record FitsCounted (counted : Counted) : Type 0 where
  pub text : length counted.text ≤ most_bytes
  pub size : counted.size ≤ 100000

-- the find of a search that is opened is in its ranges, and so are the turns that one is given
abbrev pub FitsAsked : Flight → Type 0
FitsAsked (opening wanted) = FitsWanted wanted
FitsAsked (turning number times) = FitsTurns times
FitsAsked (closing number) = Unit {0}
FitsAsked (dropping number) = Unit {0}

-- a shape that is no schema, and is in its ranges
abbrev pub FitsShape : Shape → Type 0
FitsShape (schema given parts) = ⊥
FitsShape (add given) = bytes_in given.values ≤ most_bytes
FitsShape (replace id given) = (1 ≤ id) × (bytes_in given.values ≤ most_bytes)
FitsShape (replace_by pair given) = bytes_in given.values ≤ most_bytes
FitsShape (delete id) = 1 ≤ id
FitsShape (delete_by pair) = Unit {0}
FitsShape (seek wanted) = FitsWanted wanted
FitsShape (show text join) = length text ≤ most_bytes
FitsShape (facets counted) = FitsCounted counted
FitsShape (flight asked) = FitsAsked asked

between_least : (least most n m : ℕ) → between least most n ≡ Some m → least ≤ m
between_least least most n m =
    guarded (λ k. least ≤ k) (nat_le least n && nat_le n most) (Some n) m
    (λ both is. subst (λ k. least ≤ k) (some_is n m is) (leb-true least n (first_so (nat_le least n) (nat_le n most) both)))

between_most : (least most n m : ℕ) → between least most n ≡ Some m → m ≤ most
between_most least most n m =
    guarded (λ k. k ≤ most) (nat_le least n && nat_le n most) (Some n) m
    (λ both is. subst (λ k. k ≤ most) (some_is n m is) (leb-true n most (second_so (nat_le least n) (nat_le n most) both)))

values_short : (d values : Data) → values_object d ≡ Some values → bytes_in values ≤ most_bytes
values_short d values =
    guarded (λ v. bytes_in v ≤ most_bytes) (is_some (as_object d) && nat_le (bytes_in d) most_bytes) (Some d) values
    (λ both is. subst (λ v. bytes_in v ≤ most_bytes) (some_is d values is) (leb-true (bytes_in d) most_bytes (second_so (is_some (as_object d)) (nat_le (bytes_in d) most_bytes) both)))

given_short : (name : List ℕ) (d : Data) (given : Given) → given_at name d ≡ Some given → bytes_in given.values ≤ most_bytes
given_short name d given =
    chained (λ (g : Given). bytes_in g.values ≤ most_bytes) (λ values. option_map (λ payload. record { values = values; payload = payload }) (optional_text (codes "data") d))
    (option_and_then values_object (get name d)) given
    (λ values is. mapped (λ (g : Given). bytes_in g.values ≤ most_bytes) (λ payload. record { values = values; payload = payload }) (optional_text (codes "data") d) given
    (λ payload text. chained (λ v. bytes_in v ≤ most_bytes) values_object (get name d) values (λ member there short. values_short member values short) is))

id_from_one : (name : List ℕ) (d : Data) (id : ℕ) → id_member name d ≡ Some id → 1 ≤ id
id_from_one name d id =
    chained (λ n. 1 ≤ n) (between 1 4294967295) (option_and_then whole_number (get name d)) id (λ n is e. between_least 1 4294967295 n id e)

query_short : (name : List ℕ) (d : Data) (text : List ℕ) → query_at name d ≡ Some text → length text ≤ most_bytes
query_short name d text =
    chained (λ t. length t ≤ most_bytes) (λ t. if nat_le (length t) most_bytes then Some t else None) (text_at name d) text
    (λ t is. guarded (λ u. length u ≤ most_bytes) (nat_le (length t) most_bytes) (Some t) text
    (λ short same. subst (λ u. length u ≤ most_bytes) (some_is t text same) (leb-true (length t) most_bytes short)))

page_fits : (d : Data) (page : ℕ × ℕ) → page_at d ≡ Some page → page.0 + page.1 ≤ 100000
page_fits d page =
    chained (λ (p : ℕ × ℕ). p.0 + p.1 ≤ 100000) (λ first. option_and_then (λ size. if nat_le (first + size) 100000 then Some (first, size) else None) (optional_number (codes "size") 10 d))
    (optional_number (codes "first") 0 d) page
    (λ first is. chained (λ (p : ℕ × ℕ). p.0 + p.1 ≤ 100000) (λ size. if nat_le (first + size) 100000 then Some (first, size) else None) (optional_number (codes "size") 10 d) page
    (λ size it. guarded (λ (p : ℕ × ℕ). p.0 + p.1 ≤ 100000) (nat_le (first + size) 100000) (Some (first, size)) page
    (λ few same. subst (λ (p : ℕ × ℕ). p.0 + p.1 ≤ 100000) (some_is (first, size) page same) (leb-true (first + size) 100000 few))))

-- The page ends within the first hits that may be asked for.
abbrev WithinHits : Options → Type 0
WithinHits options = options.first + options.size ≤ 100000

abbrev KeepsOne : Option CollapsedOn → Type 0
KeepsOne o = IfSome o (λ c. 1 ≤ c.max)

collapsed_keeps_by : (d : Data) (o : Option Data) (collapsed : Option CollapsedOn) → collapsed_by d o ≡ Some collapsed → KeepsOne collapsed
collapsed_keeps_by d None collapsed = either KeepsOne (has (codes "max") d) None (Some None) collapsed (λ e. cc) (λ e. subst KeepsOne (some_is None collapsed e) tt)
collapsed_keeps_by d (Some value) collapsed =
    chained KeepsOne (collapsed_on d) (as_str value) collapsed
    (λ field is. mapped KeepsOne (λ max. Some (record { field = field; max = max })) (option_and_then (between 1 100000) (optional_number (codes "max") 1 d)) collapsed
    (λ max made. chained (λ n. 1 ≤ n) (between 1 100000) (optional_number (codes "max") 1 d) max (λ n it e. between_least 1 100000 n max e) made))

options_fit : (d : Data) (options : Options) → options_at d ≡ Some options → options.first + options.size ≤ 100000
options_fit d options =
    chained WithinHits _ (scheme_at d) options
    (λ scheme i. chained WithinHits _ (page_at d) options
    (λ page j. chained WithinHits _ (check_at d) options
    (λ check k. mapped WithinHits _ (cutoff_at d) options
    (λ cutoff l. page_fits d page j))))

wanted_fits : (d : Data) (ask : Ask Data) (wanted : Wanted) → FitsAsk ask → wanted_at d ask ≡ Some wanted → FitsWanted wanted
wanted_fits d ask wanted fits =
    chained FitsWanted _ (options_at d) wanted
    (λ options i. chained FitsWanted _ (sorted_at d) wanted
    (λ sorted j. chained FitsWanted _ (falling_at d) wanted
    (λ falling l. mapped FitsWanted _ (collapsed_at d) wanted
    (λ collapsed k. record { ask = fits; page = options_fit d options i; collapsed = collapsed_keeps_by d (get (codes "collapse") d) collapsed k }))))

find_fits : (name : List ℕ) (d : Data) (wanted : Wanted) → find_row name d ≡ Some wanted → FitsWanted wanted
find_fits name d wanted =
    guarded FitsWanted (has_only (name ∷ codes "op" ∷ option_names) d) _ wanted
    (λ only. chained FitsWanted _ (query_at name d) wanted
    (λ text is. chained FitsWanted _ (join_at d) wanted
    (λ join it. wanted_fits d (Ask.Text text join) wanted (query_short name d text is))))

tree_fits : (d : Data) (wanted : Wanted) → tree_row d ≡ Some wanted → FitsWanted wanted
tree_fits d wanted =
    guarded FitsWanted (has_only (codes "tree" ∷ option_names) d) _ wanted
    (λ only. chained FitsWanted _ (get (codes "tree") d) wanted (λ value is. wanted_fits d (Ask.Tree value) wanted tt))

add_fits : (d : Data) (shape : Shape) → add_row d ≡ Some shape → FitsShape shape
add_fits d shape =
    guarded FitsShape (has_only (codes "add" ∷ codes "data" ∷ []) d) _ shape
    (λ only. mapped FitsShape add (given_at (codes "add") d) shape (λ given is. given_short (codes "add") d given is))

replace_fits : (d : Data) (shape : Shape) → replace_row d ≡ Some shape → FitsShape shape
replace_fits d shape =
    guarded FitsShape (has_only (codes "replace" ∷ codes "with" ∷ codes "data" ∷ []) d) _ shape
    (λ only. chained FitsShape _ (id_member (codes "replace") d) shape
    (λ id is. mapped FitsShape (replace id) (given_at (codes "with") d) shape (λ given it. (id_from_one (codes "replace") d id is, given_short (codes "with") d given it))))

replace_by_fits : (d : Data) (shape : Shape) → replace_by_row d ≡ Some shape → FitsShape shape
replace_by_fits d shape =
    guarded FitsShape (has_only (codes "replace_by" ∷ codes "with" ∷ codes "data" ∷ []) d) _ shape
    (λ only. chained FitsShape _ (pair_at (codes "replace_by") d) shape
    (λ pair is. mapped FitsShape (replace_by pair) (given_at (codes "with") d) shape (λ given it. given_short (codes "with") d given it)))

delete_fits : (d : Data) (shape : Shape) → delete_row d ≡ Some shape → FitsShape shape
delete_fits d shape =
    guarded FitsShape (has_only (codes "delete" ∷ []) d) _ shape
    (λ only. mapped FitsShape delete (id_member (codes "delete") d) shape (λ id is. id_from_one (codes "delete") d id is))

delete_by_fits : (d : Data) (shape : Shape) → delete_by_row d ≡ Some shape → FitsShape shape
delete_by_fits d shape =
    guarded FitsShape (has_only (codes "delete_by" ∷ []) d) _ shape (λ only. mapped FitsShape delete_by (pair_at (codes "delete_by") d) shape (λ pair is. tt))

show_fits : (d : Data) (shape : Shape) → show_row d ≡ Some shape → FitsShape shape
show_fits d shape =
    guarded FitsShape (has_only (codes "show" ∷ codes "op" ∷ []) d) _ shape
    (λ only. chained FitsShape _ (query_at (codes "show") d) shape
    (λ text is. mapped FitsShape (show text) (join_at d) shape (λ join it. query_short (codes "show") d text is)))

told_fits : (d : Data) (size : ℕ) → told_at d ≡ Some size → size ≤ 100000
told_fits d size =
    chained (λ n. n ≤ 100000) (between 0 100000) (optional_number (codes "size") 10 d) size (λ n is e. between_most 0 100000 n size e)

facets_fit : (d : Data) (counted : Counted) → facets_row d ≡ Some counted → FitsCounted counted
facets_fit d counted =
    guarded FitsCounted (has_only (codes "facets" ∷ codes "op" ∷ codes "by" ∷ codes "size" ∷ []) d) _ counted
    (λ only. chained FitsCounted _ (query_at (codes "facets") d) counted
    (λ text is. chained FitsCounted _ (join_at d) counted
    (λ join it. chained FitsCounted _ (text_at (codes "by") d) counted
    (λ field there. mapped FitsCounted _ (told_at d) counted
    (λ size told. record { text = query_short (codes "facets") d text is; size = told_fits d size told })))))

times_fit : (d : Data) (times : ℕ) → times_at d ≡ Some times → FitsTurns times
times_fit d times =
    chained FitsTurns (between 1 100000) (optional_number (codes "times") 1 d) times
    (λ n is e. record { some = between_least 1 100000 n times e; few = between_most 1 100000 n times e })

open_fits : (d : Data) (asked : Flight) → open_row d ≡ Some asked → FitsAsked asked
open_fits d asked = mapped FitsAsked opening (find_row (codes "open") d) asked (find_fits (codes "open") d)

turn_fits : (d : Data) (asked : Flight) → turn_row d ≡ Some asked → FitsAsked asked
turn_fits d asked =
    guarded FitsAsked (has_only (codes "turn" ∷ codes "times" ∷ []) d) _ asked
    (λ only. chained FitsAsked _ (number_at (codes "turn") d) asked
    (λ number is. mapped FitsAsked (turning number) (times_at d) asked (times_fit d)))

close_fits : (d : Data) (asked : Flight) → close_row d ≡ Some asked → FitsAsked asked
close_fits d asked =
    guarded FitsAsked (has_only (codes "close" ∷ []) d) _ asked (λ only. mapped FitsAsked closing (number_at (codes "close") d) asked (λ number is. tt))

drop_fits : (d : Data) (asked : Flight) → drop_row d ≡ Some asked → FitsAsked asked
drop_fits d asked =
    guarded FitsAsked (has_only (codes "drop" ∷ []) d) _ asked (λ only. mapped FitsAsked dropping (number_at (codes "drop") d) asked (λ number is. tt))

pub later_fits : (d : Data) (shape : Shape) → later_shape d ≡ Some shape → FitsShape shape
later_fits d shape =
    either FitsShape (has (codes "add") d) _ _ shape (add_fits d shape)
    (either FitsShape (has (codes "replace") d) _ _ shape (replace_fits d shape)
    (either FitsShape (has (codes "replace_by") d) _ _ shape (replace_by_fits d shape)
    (either FitsShape (has (codes "delete") d) _ _ shape (delete_fits d shape)
    (either FitsShape (has (codes "delete_by") d) _ _ shape (delete_by_fits d shape)
    (either FitsShape (has (codes "find") d) _ _ shape (mapped FitsShape seek (find_row (codes "find") d) shape (find_fits (codes "find") d))
    (either FitsShape (has (codes "tree") d) _ _ shape (mapped FitsShape seek (tree_row d) shape (tree_fits d))
    (either FitsShape (has (codes "show") d) _ _ shape (show_fits d shape)
    (either FitsShape (has (codes "facets") d) _ _ shape (mapped FitsShape facets (facets_row d) shape (facets_fit d))
    (either FitsShape (has (codes "open") d) _ _ shape (mapped FitsShape flight (open_row d) shape (open_fits d))
    (either FitsShape (has (codes "turn") d) _ _ shape (mapped FitsShape flight (turn_row d) shape (turn_fits d))
    (either FitsShape (has (codes "close") d) _ _ shape (mapped FitsShape flight (close_row d) shape (close_fits d))
    (either FitsShape (has (codes "drop") d) _ _ shape (mapped FitsShape flight (drop_row d) shape (drop_fits d)) (λ e. cc)))))))))))))
