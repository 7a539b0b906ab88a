-- What a wdf weighs, and which wdf a need wants.
use Rattle.std.proofs.Common.{◌≡◌, ◌<◌, ◌≤◌, ◌+◌, ◌*◌, ◌/◌, ◌%◌, ◌^◌, ℕ, min, sym, subst, arith, add-one, suc-mul, mul-le-mul_right, lt_of_mul-lt-mul_right}
use Rattle.std.proofs.lemmas.Nat.{mul-le}
use Rattle.std.proofs.lemmas.Grind.{div_ceil_times}
use Rattle.sk_base.specs.declared.find.Scheme.{Scheme}
use Rattle.sk_model.specs.Weights.{weigh, weigh_by}

-- the square of a wdf below 2^40
pub square_small : (wdf : ℕ) → wdf < 2 ^ 40 → wdf * wdf < 2 ^ 80
square_small wdf h =
    let most : wdf ≤ 1099511627775 = omega (arith, h) in
    let square : wdf * wdf ≤ 1099511627775 * 1099511627775 = mul-le wdf wdf 1099511627775 1099511627775 most most in
    omega (arith, square)

-- a weight below 2^80 under a factor
pub times_small : (weight factor : ℕ) → weight < 2 ^ 80 → factor ≤ 65536 → weight * factor < 2 ^ 96
times_small weight factor h f =
    let most : weight ≤ 1208925819614629174706175 = omega (arith, h) in
    let both : weight * factor ≤ 1208925819614629174706175 * 65536 = mul-le weight factor 1208925819614629174706175 65536 most f in
    omega (arith, both)

-- a wdf below 2^40
weigh_small : (scheme : Scheme) (wdf : ℕ) → wdf < 2 ^ 40 → weigh scheme wdf < 2 ^ 80
weigh_small Scheme.Bool wdf h = omega arith
weigh_small Scheme.Coord wdf h = omega arith
weigh_small Scheme.Nnn wdf h = omega (arith, h)
weigh_small Scheme.Bnn wdf h = omega arith
weigh_small Scheme.Snn wdf h = square_small wdf h

-- the same under a factor
pub weigh_by_small : (factor : ℕ) (scheme : Scheme) (wdf : ℕ) → factor ≤ 65536 → wdf < 2 ^ 40 → weigh_by factor scheme wdf < 2 ^ 96
weigh_by_small factor scheme wdf f h = times_small (weigh scheme wdf) factor (weigh_small scheme wdf h) f

-- what weighs the needed part of a need, rounded up, weighs it under the factor
pub enough_by : (factor need least weight : ℕ) → 0 < factor → least ≡ need / factor + min 1 (need % factor) → least ≤ weight → need ≤ weight * factor
enough_by factor need least weight some e h =
    let up : need ≤ least * factor = subst (λ (n : ℕ). need ≤ n * factor) (sym e) (div_ceil_times need factor some).0 in
    let more : least * factor ≤ weight * factor = mul-le-mul_right factor h in
    omega (arith, up, more)

-- what weighs the need under the factor weighs that part of it
pub least_by : (factor need least weight : ℕ) → 0 < factor → least ≡ need / factor + min 1 (need % factor) → need ≤ weight * factor → least ≤ weight
least_by factor need least weight some e h =
    let up : least * factor < need + factor = subst (λ (n : ℕ). n * factor < need + factor) (sym e) (div_ceil_times need factor some).1 in
    let more : (weight + 1) * factor ≡ weight * factor + factor = suc_times weight factor in
    let below : least * factor < (weight + 1) * factor = omega (arith, up, more, h) in
    let less : least < weight + 1 = lt_of_mul-lt-mul_right factor below in
    omega (arith, less)
  where
    suc_times : (a b : ℕ) → (a + 1) * b ≡ a * b + b
    suc_times a b = rw add-one (suc-mul a b)
