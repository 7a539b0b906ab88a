-- What packed documents are where a dictionary grows, and after an edit.
use Rattle.std.proofs.Common.{◌≡◌, ℕ, ◌≤◌, List, [], ◌∷◌, length, Option, None, Some, IfSome, option_map, inl, inr, refl, sym, ap, subst, ◌∙◌, arith}
use Rattle.std.specs.List.{AllByRecursion}
use Rattle.std.proofs.lemmas.Bool.{cases_order, cases_eq}
use Rattle.sk_sorted.specs.Entries.{RiseAbove, put, without, found}
use Rattle.sk_sorted.proofs.EntryLaws.{put-after, put-here, put-before, without-here, without-other, found-here, found-other, found-without, RiseAbove-put, RiseAbove-without, AllByRecursion-put, AllByRecursion-without, AllByRecursion-found}
use Rattle.sk_base.specs.Documents.{AreTerms}
use Rattle.sk_base.specs.Numbers.{Docs}
use Rattle.sk_documents.specs.Documented.{HasTerms}
use Rattle.sk_model.specs.Documents.{Document}
use Rattle.sk_model.specs.Edits.{document_at, put_document, without_id}
use Rattle.sk_sorted.specs.Runs.{flat}
use Rattle.sk_lists.specs.Lists.{Runs}
use Rattle.sk_packed.specs.Packed.{NumberedTerm, AreKnown}
use Rattle.sk_packed.specs.Payloads.{Payloads, KeepsPayloads}
use Rattle.sk_slots.specs.declared.slot_lists.SlotEntry.{SlotEntry}
use Rattle.sk_slots.specs.Slotted.{SetsAll, ClearsAll, KeepsOthers}
use Rattle.sk_terms.specs.Listed.{Listed, PutsAll, TakesOutAll}
use Rattle.sk_terms.specs.Named.{named_all, Grows}
use Rattle.sk_terms.proofs.NamedLemmas.{Grows-refl, known-higher, named-grown}
use Rattle.sk_index.specs.Unpacked.{unpacked, unpacked_all, HasKnown, AreWhole}
use Rattle.sk_index.specs.Stands.{ListsStand}
use Rattle.sk_index.proofs.StandsLemmas.{Stands-put, Stands-without}

-- each packed document is what it was where only another document changed
some_none : {p : List NumberedTerm} → Some p ≡ None → ⊥
some_none e = cc

pub unpacked-kept : (old new : List (List ℕ)) (slots slots2 : List SlotEntry) (payloads payloads2 : Payloads) (id : ℕ) (entries : List (ℕ × List NumberedTerm)) → Grows old new → AllByRecursion (HasKnown old) entries
    → KeepsOthers id slots slots2 → KeepsPayloads id payloads payloads2 → found id entries ≡ None
    → unpacked_all new slots2 payloads2 entries ≡ unpacked_all old slots payloads entries
unpacked-kept old new slots slots2 payloads payloads2 id [] g known keeps stay none = refl
unpacked-kept old new slots slots2 payloads payloads2 id (e ∷ es) g known keeps stay none = elim (cases_eq e.0 id) [
  | inl same ↦ absurd (some_none (sym (found-here id e es same) ∙ none))
  | inr apart ↦
      λ i. (e.0, record { terms = named-grown old new e.1 g known.0 i; values = keeps e.0 apart i; payload = stay e.0 apart i })
      ∷ unpacked-kept old new slots slots2 payloads payloads2 id es g known.1 keeps stay (sym (found-other id e es apart) ∙ none) i
]

pub known-grown : (old new : List (List ℕ)) (entries : List (ℕ × List NumberedTerm)) → Grows old new → AllByRecursion (HasKnown old) entries → AllByRecursion (HasKnown new) entries
known-grown old new [] g known = tt
known-grown old new (e ∷ es) g known = (known-higher (length old) (length new) e.1 g.longer known.0, known-grown old new es g known.1)

module _ (dict : List (List ℕ)) (slots : List SlotEntry) (payloads : Payloads) where
  -- the entry of a packed document
  abbrev entry_of : ℕ × List NumberedTerm → ℕ × Document
  entry_of e = (e.0, unpacked dict slots payloads e.0 e.1)

  pub unpacked-put : (id : ℕ) (p : List NumberedTerm) (es : List (ℕ × List NumberedTerm)) → unpacked_all dict slots payloads (put id p es) ≡ put_document id (unpacked dict slots payloads id p) (unpacked_all dict slots payloads es)
  unpacked-put id p [] = refl
  unpacked-put id p (e ∷ es) = elim (cases_order e.0 id) [
    | inl same ↦
        ap (unpacked_all dict slots payloads) (put-here id p e es same) ∙ ap (λ (d : Document). (e.0, d) ∷ unpacked_all dict slots payloads es) (ap (λ n. unpacked dict slots payloads n p) same)
        ∙ sym (put-here id (unpacked dict slots payloads id p) (entry_of e) (unpacked_all dict slots payloads es) same)
    | inr apart ↦ elim apart [
      | inl after ↦
          ap (unpacked_all dict slots payloads) (put-after id p e es after) ∙ ap (λ (l : Docs). entry_of e ∷ l) (unpacked-put id p es)
          ∙ sym (put-after id (unpacked dict slots payloads id p) (entry_of e) (unpacked_all dict slots payloads es) after)
      | inr before ↦ ap (unpacked_all dict slots payloads) (put-before id p e es before) ∙ sym (put-before id (unpacked dict slots payloads id p) (entry_of e) (unpacked_all dict slots payloads es) before)
    ]
  ]

  pub unpacked-without : (id : ℕ) (es : List (ℕ × List NumberedTerm)) → unpacked_all dict slots payloads (without id es) ≡ without_id id (unpacked_all dict slots payloads es)
  unpacked-without id [] = refl
  unpacked-without id (e ∷ es) = elim (cases_eq e.0 id) [
    | inl same ↦ ap (unpacked_all dict slots payloads) (without-here id e es same) ∙ sym (without-here id (entry_of e) (unpacked_all dict slots payloads es) same)
    | inr apart ↦
        ap (unpacked_all dict slots payloads) (without-other id e es apart) ∙ ap (λ (l : Docs). entry_of e ∷ l) (unpacked-without id es)
        ∙ sym (without-other id (entry_of e) (unpacked_all dict slots payloads es) apart)
  ]

  pub unpacked-found : (id : ℕ) (es : List (ℕ × List NumberedTerm)) → document_at id (unpacked_all dict slots payloads es) ≡ option_map (unpacked dict slots payloads id) (found id es)
  unpacked-found id [] = refl
  unpacked-found id (e ∷ es) = elim (cases_eq e.0 id) [
    | inl same ↦
        found-here id (entry_of e) (unpacked_all dict slots payloads es) same ∙ ap (λ n. Some (unpacked dict slots payloads n e.1)) same
        ∙ sym (ap (option_map (unpacked dict slots payloads id)) (found-here id e es same))
    | inr apart ↦
        found-other id (entry_of e) (unpacked_all dict slots payloads es) apart ∙ unpacked-found id es ∙ sym (ap (option_map (unpacked dict slots payloads id)) (found-other id e es apart))
  ]

  -- no packed document is there where no document is
  pub found-none : (id : ℕ) (es : List (ℕ × List NumberedTerm)) → document_at id (unpacked_all dict slots payloads es) ≡ None → found id es ≡ None
  found-none id es none = by (found id es) (sym (unpacked-found id es) ∙ none)
    where
      by : (o : Option (List NumberedTerm)) → option_map (unpacked dict slots payloads id) o ≡ None → o ≡ None
      by None e = refl
      by (Some p) e = cc

  -- packed documents have the ids of the documents
  pub rise_packed : (low : ℕ) (es : List (ℕ × List NumberedTerm)) → RiseAbove low (unpacked_all dict slots payloads es) → RiseAbove low es
  rise_packed low [] up = tt
  rise_packed low (e ∷ es) up = (up.0, rise_packed e.0 es up.1)

  -- what the terms of the document that is found are
  pub found-known : (id : ℕ) (p : List NumberedTerm) (es : List (ℕ × List NumberedTerm)) → AllByRecursion (HasKnown dict) es → found id es ≡ Some p → AreKnown (length dict) p
  found-known id p es known some = AllByRecursion-found (λ (q : List NumberedTerm). AreKnown (length dict) q) id p es known some

  pub found-ordered : (id : ℕ) (p : List NumberedTerm) (es : List (ℕ × List NumberedTerm)) → AllByRecursion HasTerms (unpacked_all dict slots payloads es) → found id es ≡ Some p → AreTerms (named_all dict p)
  found-ordered id p es ordered some =
      AllByRecursion-found (λ (d : Document). AreTerms d.terms) id (unpacked dict slots payloads id p) (unpacked_all dict slots payloads es) ordered (unpacked-found id es ∙ ap (option_map (unpacked dict slots payloads id)) some)

-- what is mapped twice, and what holds of what is mapped
pub mapped_twice : {A B C : Type 0} (f : A → B) (g : B → C) (o : Option A) → option_map (λ a. g (f a)) o ≡ option_map g (option_map f o)
mapped_twice f g None = refl
mapped_twice f g (Some a) = refl

pub some_of : {A B : Type 0} (f : A → B) (P : B → Type 0) (o : Option A) (q : Option B) → option_map f o ≡ q → ((b : B) → q ≡ Some b → P b) → IfSome o (λ a. P (f a))
some_of f P None q e h = tt
some_of f P (Some a) q e h = h (f a) (sym e)

-- all with one document more
module _ (all all2 : Runs) (listed listed2 : Listed) (slots slots2 : List SlotEntry) (payloads payloads2 : Payloads) (entries entries2 : List (ℕ × List NumberedTerm)) (id : ℕ) (d : Document) (p : List NumberedTerm)
    (whole : AreWhole all listed slots payloads entries) (is : entries2 ≡ put id p entries) (grows : Grows listed.terms listed2.terms) (known : AreKnown (length listed2.terms) p)
    (keeps : KeepsOthers id slots slots2) (stay : KeepsPayloads id payloads payloads2) (same : unpacked listed2.terms slots2 payloads2 id p ≡ d) (none : document_at id (unpacked_all listed.terms slots payloads entries) ≡ None) where
  pub documents-put : unpacked_all listed2.terms slots2 payloads2 entries2 ≡ put_document id d (unpacked_all listed.terms slots payloads entries)
  documents-put =
      ap (unpacked_all listed2.terms slots2 payloads2) is ∙ unpacked-put listed2.terms slots2 payloads2 id p entries
      ∙ (λ i. put_document id (same i) (unpacked-kept listed.terms listed2.terms slots slots2 payloads payloads2 id entries grows whole.known keeps stay (found-none listed.terms slots payloads id entries none) i))

  pub AreWhole-put : 1 ≤ id → AreTerms d.terms → flat all2 ≡ put id 0 (flat all) → PutsAll id d.terms listed listed2 → SetsAll id d.values slots slots2 → AreWhole all2 listed2 slots2 payloads2 entries2
  AreWhole-put first ordered a l v =
      let docs = unpacked_all listed.terms slots payloads entries in
      record {
        known = subst (AllByRecursion (HasKnown listed2.terms)) (sym is) (AllByRecursion-put (HasKnown listed2.terms) id p entries known (known-grown listed.terms listed2.terms entries grows whole.known));
        rise = subst (RiseAbove 0) (sym documents-put) (RiseAbove-put 0 id d docs (omega (arith, first)) whole.rise);
        ordered = subst (AllByRecursion HasTerms) (sym documents-put) (AllByRecursion-put HasTerms id d docs ordered whole.ordered);
        stand = subst (ListsStand all2 listed2 slots2) (sym documents-put) (Stands-put docs all all2 listed listed2 slots slots2 id d a l v whole.rise none whole.stand);
      }

-- all without a document
module _ (all all2 : Runs) (listed listed2 : Listed) (slots slots2 : List SlotEntry) (payloads payloads2 : Payloads) (entries entries2 : List (ℕ × List NumberedTerm)) (id : ℕ) (p : List NumberedTerm)
    (whole : AreWhole all listed slots payloads entries) (is : entries2 ≡ without id entries) (same : listed2.terms ≡ listed.terms) (keeps : KeepsOthers id slots slots2) (stay : KeepsPayloads id payloads payloads2) where
  pub documents-without : unpacked_all listed2.terms slots2 payloads2 entries2 ≡ without_id id (unpacked_all listed.terms slots payloads entries)
  documents-without =
      (λ i. unpacked_all (same i) slots2 payloads2 (is i))
      ∙ unpacked-kept listed.terms listed.terms slots slots2 payloads payloads2 id (without id entries) (Grows-refl listed.terms) (AllByRecursion-without (HasKnown listed.terms) id entries whole.known) keeps stay
      (found-without 0 id entries (rise_packed listed.terms slots payloads 0 entries whole.rise))
      ∙ unpacked-without listed.terms slots payloads id entries

  pub AreWhole-without : flat all2 ≡ without id (flat all) → TakesOutAll id (named_all listed.terms p) listed listed2 → ClearsAll id slots slots2
      → found id entries ≡ Some p → AreWhole all2 listed2 slots2 payloads2 entries2
  AreWhole-without a l v some =
      let docs = unpacked_all listed.terms slots payloads entries in
      record {
        known = subst (AllByRecursion (HasKnown listed2.terms)) (sym is) (subst (λ w. AllByRecursion (HasKnown w) (without id entries)) (sym same) (AllByRecursion-without (HasKnown listed.terms) id entries whole.known));
        rise = subst (RiseAbove 0) (sym documents-without) (RiseAbove-without 0 id docs whole.rise);
        ordered = subst (AllByRecursion HasTerms) (sym documents-without) (AllByRecursion-without HasTerms id docs whole.ordered);
        stand = subst (ListsStand all2 listed2 slots2) (sym documents-without)
            (Stands-without docs all all2 listed listed2 slots slots2 id (unpacked listed.terms slots payloads id p) a l v whole.rise (unpacked-found listed.terms slots payloads id entries ∙ ap (option_map (unpacked listed.terms slots payloads id)) some) whole.stand);
      }
