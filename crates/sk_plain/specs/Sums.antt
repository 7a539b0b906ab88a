-- The scores of parts, put together one after the other.
use Rattle.std.specs.Prelude.{ℕ, ◌+◌, ◌-◌, ◌^◌, ◌==◌, min, true, false, List, [], ◌∷◌, is_some, Option, Some, None, if◌then◌else◌}
use Rattle.sk_query.specs.declared.form.Form.{Form}
use Rattle.sk_model.specs.Combining.{greater, where_so, is_odd}
use Rattle.sk_plain.specs.declared.sums.Sums.{Sums}

-- Two scores that must both be there, added as far as 128 bits go.
abbrev pub capped_both : Option ℕ → Option ℕ → Option ℕ
capped_both None b = None
capped_both (Some v) None = None
capped_both (Some v) (Some w) = Some (min (2 ^ 128 - 1) (v + w))

-- Two scores, at least one of which must be there, added as far as 128 bits go.
abbrev pub capped_either : Option ℕ → Option ℕ → Option ℕ
capped_either None b = b
capped_either (Some v) None = Some v
capped_either (Some v) (Some w) = Some (min (2 ^ 128 - 1) (v + w))

-- No score yet.
abbrev pub nothing_yet : Sums
nothing_yet = record { begun = false; first = None; all = Some 0; any = None; greatest = None; matching = 0 }

-- One score more.
abbrev pub with_score : Sums → Option ℕ → Sums
with_score t s = record {
  begun = true;
  first = if t.begun then t.first else s;
  all = capped_both t.all s;
  any = capped_either t.any s;
  greatest = greater t.greatest s;
  matching = if is_some s then t.matching + 1 else t.matching;
}

-- All of these more.
abbrev pub with_scores : Sums → List (Option ℕ) → Sums
with_scores t [] = t
with_scores t (s ∷ scores) = with_scores (with_score t s) scores

-- What a form makes of them.
abbrev pub made_by : Form → Sums → Option ℕ
made_by Form.And t = t.all
made_by Form.Or t = t.any
made_by Form.Xor t = where_so (is_odd t.matching) t.any
made_by Form.Max t = t.greatest
made_by Form.AndNot t = where_so (t.matching == 1) t.first
made_by Form.AndMaybe t = where_so (is_some t.first) t.any
made_by Form.Filter t = where_so (is_some t.all) t.first
