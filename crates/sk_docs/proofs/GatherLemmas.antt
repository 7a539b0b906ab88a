-- What is gathered, word by word and field by field.
use Rattle.std.proofs.Common.{◌≡◌, ◌<◌, ◌≤◌, ◌+◌, ◌*◌, ℕ, suc, Bool, true, false, ◌&&◌, ◌==◌, nat_le, List, [], ◌∷◌, ◌++◌, length, map, filter, cond, refl, sym, ap, subst, ◌∙◌, true≢false, All, AllPairs, arith, drop, drop-cons, get_or, append-nil}
use Rattle.std.specs.List.{list_all}
use Rattle.std.proofs.lemmas.Bool.Decides.{nat_tests}
use Rattle.std.proofs.lemmas.List.{append_assoc}
use Rattle.std.proofs.lemmas.List.Elements.{All-nil, All-head, All-tail, All-cons, All-append, All-push, All-map, All-weaker}
use Rattle.std.proofs.lemmas.List.Quantifiers.{all_pairs_push}
use Rattle.std.proofs.lemmas.List.Sums.{AllPass-from_list_all}
use Rattle.std.specs.Prelude.{Option, Some}
use Rattle.std.proofs.lemmas.Bool.{and_parts}
use Rattle.sk_text.specs.declared.word.Word.{Word}
use Rattle.sk_text.specs.Words.{words}
use Rattle.sk_base.specs.declared.doc_entry.DocTerm.{DocTerm}
use Rattle.sk_base.specs.declared.record.Entry.{Entry}
use Rattle.sk_base.specs.declared.record.FieldValue.{FieldValue}
use Rattle.sk_base.specs.declared.schema.Field.{Field}
use Rattle.sk_base.specs.declared.schema.FieldKind.{FieldKind}
use Rattle.sk_base.specs.Fields.{is_kind, is_field}
use Rattle.sk_base.specs.Names.{is_prefix, is_name}
use Rattle.sk_base.specs.Records.{bytes_of_value, bytes_of_values, most_bytes}
use Rattle.sk_model.specs.Documents.{Occurrence, occurrence, is_indexed, placed_at, stem_of, mentions_at, mentions_from, value_at, occurrences_of, occurrences_from, text_fields, filter_term, filter_terms_of, filter_terms_from}
use Rattle.sk_base.specs.Terms.{is_given}
use Rattle.sk_docs.specs.Gathered.{Gathered, after, LieBelow, CanGather, occurrences_among, bytes_of_given, bytes_from}
use Rattle.sk_docs.specs.Joined.{LieBefore, AreMentions}
use Rattle.sk_base.specs.Loads.{load_of}
use Rattle.sk_docs.proofs.TermLemmas.{load-append}

-- ---- places

-- the places of one mention lie below
abbrev Below : ℕ → DocTerm → Type 0
Below bound m = All (λ p. p < bound) m.positions

below_weaker : (a b : ℕ) (ms : List DocTerm) → a ≤ b → LieBelow a ms → LieBelow b ms
below_weaker a b ms h all = All-weaker (Below a) (Below b) (λ m own. All-weaker (λ p. p < a) (λ p. p < b) (λ p lt. omega arith) m.positions own) ms all

-- ---- occurrences

pub after_none : (g : Gathered) → after g [] ≡ g
after_none g =
    let next : g.next + 0 ≡ g.next = omega arith in
    let same : g.mentions ++ [] ≡ g.mentions = append-nil g.mentions in
    λ i. record { mentions = same i; next = next i; stems = g.stems }

one_mention : (stems : Bool) (p : ℕ) (o : Occurrence) (ms more : List DocTerm) → ms ++ (mentions_at stems p o ++ more) ≡ (ms ++ (mentions_at stems p o ++ [])) ++ more
one_mention true p o ms more = sym (append_assoc ms (placed_at p o ∷ stem_of o ∷ []) more)
one_mention false p o ms more = sym (append_assoc ms (placed_at p o ∷ []) more)

after_one : (g : Gathered) (o : Occurrence) (os : List Occurrence) → after g (o ∷ os) ≡ after (after g (o ∷ [])) os
after_one g o os =
    let next : g.next + suc (length os) ≡ g.next + 1 + length os = omega arith in
    let all = one_mention g.stems g.next o g.mentions (mentions_from g.stems (g.next + 1) os) in
    λ i. record { mentions = all i; next = next i; stems = g.stems }

pub after-append : (g : Gathered) (os more : List Occurrence) → after g (os ++ more) ≡ after (after g os) more
after-append g [] more = ap (λ h. after h more) (sym (after_none g))
after-append g (o ∷ os) more =
    after_one g o (os ++ more) ∙ after-append (after g (o ∷ [])) os more ∙ ap (λ h. after h more) (sym (after_one g o os))

-- all of them are of a field with a step that is allowed, behind so many text fields
abbrev pub OfField : ℕ → List Occurrence → Type 0
OfField before [] = Unit {0}
OfField before (o ∷ os) = ((o.step ≤ 256) × (o.before ≡ before)) × OfField before os

-- the mentions of words so far: their places rise and lie below
record Rise (bound : ℕ) (ms : List DocTerm) : Type 0 where
  rise : AllPairs LieBefore ms
  below : LieBelow bound ms

word_more : (ms : List DocTerm) (next before : ℕ) (o : Occurrence) → o.before ≡ before → Rise (next + 100 * before) ms → Rise (next + 1 + 100 * before) (ms ++ placed_at next o ∷ [])
word_more ms next before o same so_far =
    let place : next + 100 * o.before ≡ next + 100 * before = ap (λ n. next + 100 * n) same in
    record {
      rise = all_pairs_push LieBefore ms (placed_at next o) so_far.rise
          (λ k d lt. All-cons (λ q. All (λ p. p < q) (get_or ms k d).positions) (next + 100 * o.before) []
          (subst (λ q. All (λ p. p < q) (get_or ms k d).positions) (sym place) (so_far.below k d lt)) (All-nil (λ q. All (λ p. p < q) (get_or ms k d).positions)));
      below = All-push (Below (next + 1 + 100 * before)) ms (placed_at next o) (below_weaker (next + 100 * before) (next + 1 + 100 * before) ms (omega arith) so_far.below)
          (All-cons (λ p. p < next + 1 + 100 * before) (next + 100 * o.before) [] (omega (arith, place)) (All-nil (λ p. p < next + 1 + 100 * before)));
    }

stem_more : (ms : List DocTerm) (bound : ℕ) (o : Occurrence) → Rise bound ms → Rise bound (ms ++ stem_of o ∷ [])
stem_more ms bound o so_far = record {
  rise = all_pairs_push LieBefore ms (stem_of o) so_far.rise (λ k d lt. All-nil (λ q. All (λ p. p < q) (get_or ms k d).positions));
  below = All-push (Below bound) ms (stem_of o) so_far.below (All-nil (λ p. p < bound));
}

mentions_more : (stems : Bool) (ms : List DocTerm) (next before : ℕ) (o : Occurrence) → o.before ≡ before → Rise (next + 100 * before) ms
    → Rise (next + 1 + 100 * before) (ms ++ (mentions_at stems next o ++ []))
mentions_more true ms next before o same so_far =
    subst (Rise (next + 1 + 100 * before)) (append_assoc ms (placed_at next o ∷ []) (stem_of o ∷ []))
    (stem_more (ms ++ placed_at next o ∷ []) (next + 1 + 100 * before) o (word_more ms next before o same so_far))
mentions_more false ms next before o same so_far = word_more ms next before o same so_far

-- a word adds its step, and its stem once more
load_at_most : (stems : Bool) (next : ℕ) (o : Occurrence) → o.step ≤ 256 → load_of (mentions_at stems next o ++ []) ≤ 512
load_at_most true next o small = omega (arith, small)
load_at_most false next o small = omega (arith, small)

room_one : (g : Gathered) (before more rest : ℕ) (o : Occurrence) → CanGather g before more → o.step ≤ 256 → o.before ≡ before → 2 * (g.next + 1) + rest ≤ most_bytes + before + 3
    → CanGather (after g (o ∷ [])) before rest
room_one g before more rest o room small same few =
    let one = mentions_at g.stems g.next o ++ [] in
    let so_far = mentions_more g.stems g.mentions g.next before o same (record { rise = room.rise; below = room.places }) in
    record {
      loads = omega (arith, load-append g.mentions one, load_at_most g.stems g.next o small, room.loads);
      rise = so_far.rise;
      places = so_far.below;
      few = few;
      fields = room.fields;
    }

room_less : (g : Gathered) (before more rest : ℕ) → CanGather g before more → 2 * g.next + rest ≤ most_bytes + before + 3 → CanGather g before rest
room_less g before more rest room few = record { loads = room.loads; rise = room.rise; places = room.places; few = few; fields = room.fields }

-- so many words later there is room for the rest
pub room_after : (g : Gathered) (before more rest : ℕ) (os : List Occurrence) → CanGather g before more → OfField before os → 2 * (g.next + length os) + rest ≤ most_bytes + before + 3
    → CanGather (after g os) before rest
room_after g before more rest [] room own few = room_less (after g []) before more rest (subst (λ h. CanGather h before more) (sym (after_none g)) room) few
room_after g before more rest (o ∷ os) room own few =
    subst (λ h. CanGather h before rest) (sym (after_one g o os))
    (room_after (after g (o ∷ [])) before (2 * length os + rest) rest os (room_one g before more (2 * length os + rest) o room own.0.0 own.0.1 (omega (arith, few))) own.1 (omega (arith, few)))

-- ---- the words of a text

among_step : (prefix : List ℕ) (step before : ℕ) (w : Word) (ws : List Word) (b : Bool)
    → map (occurrence prefix step before) (cond b (w ∷ filter is_indexed ws) (filter is_indexed ws))
    ≡ map (occurrence prefix step before) (cond b (w ∷ []) []) ++ occurrences_among prefix step before ws
among_step prefix step before w ws true = refl
among_step prefix step before w ws false = refl

among_more : (prefix : List ℕ) (step before : ℕ) (w : Word) (ws : List Word)
    → occurrences_among prefix step before (w ∷ ws) ≡ occurrences_among prefix step before (w ∷ []) ++ occurrences_among prefix step before ws
among_more prefix step before w ws = among_step prefix step before w ws (is_indexed w)

of_field_step : (prefix : List ℕ) (step before : ℕ) (w : Word) (ws : List Word) (b : Bool) → step ≤ 256 → OfField before (occurrences_among prefix step before ws)
    → OfField before (map (occurrence prefix step before) (cond b (w ∷ filter is_indexed ws) (filter is_indexed ws)))
of_field_step prefix step before w ws true h rest = ((h, refl), rest)
of_field_step prefix step before w ws false h rest = rest

pub among_of_field : (prefix : List ℕ) (step before : ℕ) (ws : List Word) → step ≤ 256 → OfField before (occurrences_among prefix step before ws)
among_of_field prefix step before [] h = tt
among_of_field prefix step before (w ∷ ws) h = of_field_step prefix step before w ws (is_indexed w) h (among_of_field prefix step before ws h)

among_length_step : (prefix : List ℕ) (step before : ℕ) (w : Word) (ws : List Word) (b : Bool) → length (occurrences_among prefix step before ws) ≤ length ws
    → length (map (occurrence prefix step before) (cond b (w ∷ filter is_indexed ws) (filter is_indexed ws))) ≤ suc (length ws)
among_length_step prefix step before w ws true h = omega arith
among_length_step prefix step before w ws false h = omega arith

pub among_length : (prefix : List ℕ) (step before : ℕ) (ws : List Word) → length (occurrences_among prefix step before ws) ≤ length ws
among_length prefix step before [] = omega arith
among_length prefix step before (w ∷ ws) = among_length_step prefix step before w ws (is_indexed w) (among_length prefix step before ws)

-- what is gathered of the words of a text, the rest of which is still to come
pub record InText (prefix : List ℕ) (step before : ℕ) (start now : Gathered) (rest all : List Word) : Type 0 where
  pub left : after now (occurrences_among prefix step before rest) ≡ after start (occurrences_among prefix step before all)
  pub room : CanGather now before (2 * length rest)

pub text_starts : (prefix : List ℕ) (step before more : ℕ) (start : Gathered) (all : List Word) → CanGather start before more → 2 * length all ≤ more
    → InText prefix step before start start all all
text_starts prefix step before more start all room few = record { left = refl; room = room_less start before more (2 * length all) room (omega (arith, room.few, few)) }

pub text_goes_on : (prefix : List ℕ) (step before : ℕ) (start now new : Gathered) (w : Word) (rest all : List Word) → step ≤ 256
    → InText prefix step before start now (w ∷ rest) all → new ≡ after now (occurrences_among prefix step before (w ∷ []))
    → InText prefix step before start new rest all
text_goes_on prefix step before start now new w rest all small far put =
    let one = occurrences_among prefix step before (w ∷ []) in
    record {
      left = ap (λ g. after g (occurrences_among prefix step before rest)) put ∙ sym (after-append now one (occurrences_among prefix step before rest))
          ∙ ap (after now) (sym (among_more prefix step before w rest)) ∙ far.left;
      room = subst (λ g. CanGather g before (2 * length rest)) (sym put)
          (room_after now before (2 * length (w ∷ rest)) (2 * length rest) one far.room (among_of_field prefix step before (w ∷ []) small)
          (omega (arith, far.room.few, among_length prefix step before (w ∷ []))));
    }

-- a list of no length is empty
pub none_left : {X : Type 0} (xs : List X) → length xs ≡ 0 → xs ≡ []
none_left [] h = refl
none_left (x ∷ xs) h = absurd (omega (arith, h))

-- the item at a place stands before those that follow
pub drop_here : {X : Type 0} (xs : List X) (i : ℕ) (d : X) → i < length xs → drop i xs ≡ get_or xs i d ∷ drop (i + 1) xs
drop_here xs i d lt =
    let next : suc i ≡ i + 1 = omega arith in
    drop-cons xs i d lt ∙ ap (λ k. get_or xs i d ∷ drop k xs) next

pub text_ends : (prefix : List ℕ) (step before : ℕ) (start now : Gathered) (rest all : List Word) → InText prefix step before start now rest all → rest ≡ []
    → now ≡ after start (occurrences_among prefix step before all)
text_ends prefix step before start now rest all far done =
    sym (after_none now) ∙ ap (λ ws. after now (occurrences_among prefix step before ws)) (sym done) ∙ far.left

-- ---- the fields

pub step_of_kind : (prefix : List ℕ) (step : ℕ) → is_kind (FieldKind.Text prefix step) ≡ true → step ≤ 256
step_of_kind prefix step h =
    let last = (and_parts (is_prefix prefix && nat_le 1 step) (nat_le step 256) h).1 in
    grind (arith, nat_tests)

pub of_field : (kind : FieldKind) (before : ℕ) (value : Option FieldValue) → is_kind kind ≡ true → OfField before (occurrences_of kind before value)
of_field (FieldKind.Text prefix step) before (Some (FieldValue.Text text)) h = among_of_field prefix step before (words text) (step_of_kind prefix step h)
of_field _ before _ h = tt

one_text_field : (kind : FieldKind) → text_fields kind ≤ 1
one_text_field (FieldKind.Text prefix step) = omega arith
one_text_field (FieldKind.Filter prefix) = omega arith
one_text_field (FieldKind.Number slot) = omega arith
one_text_field (FieldKind.Word slot) = omega arith

bytes_later_step : (a b : Bool) (n later here : ℕ) → (b ≡ true → a ≡ true) → later ≤ here → cond b n 0 + later ≤ cond a n 0 + here
bytes_later_step true true n later here f h = omega arith
bytes_later_step true false n later here f h = omega arith
bytes_later_step false true n later here f h = absurd (true≢false (sym (f refl)))
bytes_later_step false false n later here f h = omega arith

bytes_later : (place : ℕ) (values : List Entry) → bytes_from (place + 1) values ≤ bytes_from place values
bytes_later place [] = omega arith
bytes_later place (entry ∷ entries) =
    bytes_later_step (nat_le place entry.field) (nat_le (place + 1) entry.field) (bytes_of_value entry.value) (bytes_from (place + 1) entries) (bytes_from place entries)
    (λ h. grind (arith, nat_tests)) (bytes_later place entries)

bytes_step : (own here behind : Bool) (value : FieldValue) (found : Option FieldValue) (now later : ℕ)
    → (own ≡ true → here ≡ true) → (own ≡ true → behind ≡ false) → (behind ≡ true → here ≡ true) → later ≤ now → bytes_of_given found + later ≤ now
    → bytes_of_given (cond own (Some value) found) + (cond behind (bytes_of_value value) 0 + later) ≤ cond here (bytes_of_value value) 0 + now
bytes_step true true true value found now later f g h less more = absurd (true≢false (g refl))
bytes_step true true false value found now later f g h less more = omega arith
bytes_step true false behind value found now later f g h less more = absurd (true≢false (sym (f refl)))
bytes_step false true true value found now later f g h less more = omega arith
bytes_step false true false value found now later f g h less more = omega arith
bytes_step false false true value found now later f g h less more = absurd (true≢false (sym (h refl)))
bytes_step false false false value found now later f g h less more = omega arith

-- the bytes of the value at a place are not among those that follow
pub bytes_here : (place : ℕ) (values : List Entry) → bytes_of_given (value_at place values) + bytes_from (place + 1) values ≤ bytes_from place values
bytes_here place [] = omega arith
bytes_here place (entry ∷ entries) =
    bytes_step (entry.field == place) (nat_le place entry.field) (nat_le (place + 1) entry.field) entry.value (value_at place entries) (bytes_from place entries) (bytes_from (place + 1) entries)
    (λ h. grind (arith, nat_tests)) (λ h. grind (arith, nat_tests)) (λ h. grind (arith, nat_tests)) (bytes_later place entries) (bytes_here place entries)

pub bytes_all : (values : List Entry) → bytes_from 0 values ≡ bytes_of_values values
bytes_all [] = refl
bytes_all (entry ∷ entries) =
    let whole : nat_le 0 entry.field ≡ true = grind (arith, nat_tests) in
    ap (λ b. cond b (bytes_of_value entry.value) 0 + bytes_from 0 entries) whole ∙ ap (λ n. bytes_of_value entry.value + n) (bytes_all entries)

bytes_of_one_step : (own : Bool) (value : FieldValue) (found : Option FieldValue) (rest : ℕ) → bytes_of_given found ≤ rest → bytes_of_given (cond own (Some value) found) ≤ bytes_of_value value + rest
bytes_of_one_step true value found rest less = omega arith
bytes_of_one_step false value found rest less = omega (arith, less)

-- one value has no more bytes than all
pub bytes_of_one : (place : ℕ) (values : List Entry) → bytes_of_given (value_at place values) ≤ bytes_of_values values
bytes_of_one place [] = omega arith
bytes_of_one place (entry ∷ entries) = bytes_of_one_step (entry.field == place) entry.value (value_at place entries) (bytes_of_values entries) (bytes_of_one place entries)

-- what is gathered of the fields, the rest of which is still to come
pub record InFields (values : List Entry) (start now : Gathered) (place before : ℕ) (rest all : List Field) : Type 0 where
  pub left : after now (occurrences_from place before rest values) ≡ after start (occurrences_from 0 0 all values)
  pub room : CanGather now before (bytes_from place values + 1)
  pub few : before ≤ place

pub fields_start : (values : List Entry) (start : Gathered) (all : List Field) → CanGather start 0 (bytes_of_values values + 1) → InFields values start start 0 0 all all
fields_start values start all room = record { left = refl; room = subst (λ n. CanGather start 0 (n + 1)) (sym (bytes_all values)) room; few = omega arith }

pub room_here : (values : List Entry) (start now : Gathered) (place before : ℕ) (rest all : List Field) → InFields values start now place before rest all
    → CanGather now before (bytes_of_given (value_at place values) + 1)
room_here values start now place before rest all far =
    room_less now before (bytes_from place values + 1) (bytes_of_given (value_at place values) + 1) far.room (omega (arith, far.room.few, bytes_here place values))

room_next : (g : Gathered) (before more rest fields : ℕ) → CanGather g before more → before + fields ≤ 64 → 2 * g.next + rest ≤ most_bytes + (before + fields) + 3
    → CanGather g (before + fields) rest
room_next g before more rest fields room few left = record {
  loads = room.loads;
  rise = room.rise;
  places = below_weaker (g.next + 100 * before) (g.next + 100 * (before + fields)) g.mentions (omega arith) room.places;
  few = left;
  fields = few;
}

pub fields_go_on : (values : List Entry) (start now new : Gathered) (place before : ℕ) (field : Field) (rest all : List Field)
    → is_kind field.kind ≡ true → place < 64
    → InFields values start now place before (field ∷ rest) all
    → new ≡ after now (occurrences_of field.kind before (value_at place values)) → 2 * new.next ≤ 2 * now.next + bytes_of_given (value_at place values) + text_fields field.kind
    → InFields values start new (place + 1) (before + text_fields field.kind) rest all
fields_go_on values start now new place before field rest all sound here far put count =
    let own = occurrences_of field.kind before (value_at place values) in
    let more = occurrences_from (place + 1) (before + text_fields field.kind) rest values in
    let next : new.next ≡ now.next + length own = ap (λ g. g.next) put in
    let one = one_text_field field.kind in
    let room : CanGather new before 0 =
    subst (λ g. CanGather g before 0) (sym put)
    (room_after now before (bytes_from place values + 1) 0 own far.room (of_field field.kind before (value_at place values) sound)
    (omega (arith, next, count, one, far.room.few, bytes_here place values))) in
    record {
      left = ap (λ g. after g more) put ∙ sym (after-append now own more) ∙ far.left;
      room = room_next new before 0 (bytes_from (place + 1) values + 1) (text_fields field.kind) room (omega (arith, far.few, one, here)) (omega (arith, count, far.room.few, bytes_here place values));
      few = omega (arith, far.few, one);
    }

-- a field of a schema keeps the rules of its kind
pub kind_is_sound : (fields : List Field) (i : ℕ) (d : Field) → list_all is_field fields ≡ true → i < length fields → is_kind (get_or fields i d).kind ≡ true
kind_is_sound fields i d sound lt =
    let field = get_or fields i d in
    (and_parts (is_name field.name) (is_kind field.kind) (AllPass-from_list_all is_field fields sound i d lt)).1

-- ---- filters

filters_step : (prefix text : List ℕ) (texts : List (List ℕ)) (b : Bool)
    → map (filter_term prefix) (cond b (text ∷ filter is_given texts) (filter is_given texts))
    ≡ map (filter_term prefix) (cond b (text ∷ []) []) ++ map (filter_term prefix) (filter is_given texts)
filters_step prefix text texts true = refl
filters_step prefix text texts false = refl

-- the texts of a filter, the first noted before the others
pub filters_go_on : (prefix : List ℕ) (ms new : List DocTerm) (text : List ℕ) (texts : List (List ℕ))
    → new ≡ ms ++ map (filter_term prefix) (filter is_given (text ∷ []))
    → new ++ map (filter_term prefix) (filter is_given texts) ≡ ms ++ map (filter_term prefix) (filter is_given (text ∷ texts))
filters_go_on prefix ms new text texts put =
    ap (λ ns. ns ++ map (filter_term prefix) (filter is_given texts)) put
    ∙ append_assoc ms (map (filter_term prefix) (filter is_given (text ∷ []))) (map (filter_term prefix) (filter is_given texts))
    ∙ ap (λ ns. ms ++ ns) (sym (filters_step prefix text texts (is_given text)))

-- a mention of a filter has wdf 0 and no place
abbrev IsOfFilter : DocTerm → Type 0
IsOfFilter m = (m.wdf ≡ 0) × (m.positions ≡ [])

of_filter : (kind : FieldKind) (value : Option FieldValue) → All IsOfFilter (filter_terms_of kind value)
of_filter (FieldKind.Filter prefix) (Some (FieldValue.Filter texts)) = All-map IsOfFilter (filter_term prefix) (filter is_given texts) (λ k d lt. (refl, refl))
of_filter _ _ = All-nil IsOfFilter

of_filters : (place : ℕ) (fields : List Field) (values : List Entry) → All IsOfFilter (filter_terms_from place fields values)
of_filters place [] values = All-nil IsOfFilter
of_filters place (field ∷ fields) values =
    All-append IsOfFilter (filter_terms_of field.kind (value_at place values)) (filter_terms_from (place + 1) fields values) (of_filter field.kind (value_at place values))
    (of_filters (place + 1) fields values)

none_behind : (a m : DocTerm) → m.positions ≡ [] → LieBefore a m
none_behind a m none = subst (All (λ q. All (λ p. p < q) a.positions)) (sym none) (All-nil (λ q. All (λ p. p < q) a.positions))

with_filters : (ms fs : List DocTerm) → AreMentions ms → All IsOfFilter fs → AreMentions (ms ++ fs)
with_filters ms [] all none = subst AreMentions (sym (append-nil ms)) all
with_filters ms (f ∷ fs) all none =
    let first = All-head IsOfFilter f fs none in
    subst AreMentions (append_assoc ms (f ∷ []) fs)
    (with_filters (ms ++ f ∷ []) fs
    (record {
      rise = all_pairs_push LieBefore ms f all.rise (λ k d lt. none_behind (get_or ms k d) f first.1);
      light = omega (arith, load-append ms (f ∷ []), first.0, all.light);
    })
    (All-tail IsOfFilter f fs none))

-- the mentions of filters join those of texts
pub filters_join : (ms : List DocTerm) (fields : List Field) (values : List Entry) → AreMentions ms → AreMentions (ms ++ filter_terms_from 0 fields values)
filters_join ms fields values all = with_filters ms (filter_terms_from 0 fields values) all (of_filters 0 fields values)

-- what could be gathered can be joined
pub gathered_all : (g : Gathered) (before more : ℕ) → CanGather g before more → AreMentions g.mentions
gathered_all g before more room = record { rise = room.rise; light = omega (arith, room.loads, room.few) }
