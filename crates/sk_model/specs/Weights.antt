-- What a wdf weighs.
-- Source: Xapian's API documentation (`BoolWeight`, `CoordWeight`, `TfIdfWeight` with the normalisations `nnn`, `bnn` and `snn`). Own: a wdf of 0 under `bnn`.
use Rattle.std.specs.Prelude.{ℕ, ◌*◌, min}
use Rattle.sk_base.specs.declared.find.Scheme.{Scheme}

-- The weight of a wdf: nothing, one, the wdf itself, one where it is at least one, or its square.
abbrev pub weigh : Scheme → ℕ → ℕ
weigh Scheme.Bool wdf = 0
weigh Scheme.Coord wdf = 1
weigh Scheme.Nnn wdf = wdf
weigh Scheme.Bnn wdf = min 1 wdf
weigh Scheme.Snn wdf = wdf * wdf

-- The same under a factor.
abbrev pub weigh_by : ℕ → Scheme → ℕ → ℕ
weigh_by factor scheme wdf = weigh scheme wdf * factor
