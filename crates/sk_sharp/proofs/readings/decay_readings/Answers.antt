use Rattle.std.proofs.Common.{◌≡◌, ◌∙◌, ap, arith}
use Rattle.sk_base.specs.Numbers.{length_of}
use Rattle.sk_model.specs.Sharp.{up, past}
use Rattle.sk_sharp.proofs.readings.decay_readings.Goals as goal

pub returns : goal.returns
returns c =
    let a = c.as_bytes-a.ensures.value ∙ c.as_str.ensures in
    let b = c.as_bytes-b.ensures.value ∙ c.as_str-2.ensures in
    let all : c.length_of.result ≡ length_of c.args.a.now c.args.docs.now.entries = c.length_of.ensures.value ∙ ap (λ t. length_of t c.args.docs.now.entries) a in
    let before : c.up.result ≡ up c.args.b.now c.args.point c.args.docs.now.entries = c.up.ensures.value ∙ ap (λ t. up t c.args.point c.args.docs.now.entries) b in
    let behind : c.past.result ≡ past c.args.a.now c.args.point c.args.docs.now.entries = c.past.ensures.value ∙ ap (λ t. past t c.args.point c.args.docs.now.entries) a in
    omega (arith, all, before, behind)
