-- What a change makes of two sides.
use Rattle.std.proofs.Common.{refl, sym, ap, ◌∙◌, Box, Global}
use Rattle.sk_query.specs.declared.form.Form.{Form}
use Rattle.sk_nodes.specs.declared.node.Node.{Node}
use Rattle.sk_nodes.specs.Shapes.{shape_of}
use Rattle.sk_nodes.proofs.NodeLaws.{shape_of-Nothing, shape_of-Pair, parts_shape, decays_along, other_stays}
use Rattle.sk_nodes.proofs.node.decay.Goals as goal

pub returns-in_default : goal.returns-in_default
returns-in_default c = other_stays c.args.need c.args.node.now c.in_default.not-Pair

pub returns-in-Keep : goal.returns-in-Keep
returns-in-Keep c =
    decays_along c.args.need _ _ _ _ _ _ _ _ (parts_shape c.args.node.now c.in-Pair.form c.in-Pair.ta c.in-Pair.tb c.in-Pair.a c.in-Pair.b _ _ _ _ _ c.in-Pair.is c.in-Pair.form-is c.in-Pair.ta-is c.in-Pair.tb-is (ap (λ (x : Box Node Global). x.value) c.in-Pair.a-is) (ap (λ (x : Box Node Global). x.value) c.in-Pair.b-is))
    c.in-Keep.ensures.serves c.in-Keep.ensures.table (shape_of-Pair _ _ _ _ _)

pub returns-in-Nothing : goal.returns-in-Nothing
returns-in-Nothing c =
    decays_along c.args.need _ _ _ _ _ _ _ _ (parts_shape c.args.node.now c.in-Pair.form c.in-Pair.ta c.in-Pair.tb c.in-Pair.a c.in-Pair.b _ _ _ _ _ c.in-Pair.is c.in-Pair.form-is c.in-Pair.ta-is c.in-Pair.tb-is refl refl)
    c.in-Nothing.ensures.serves c.in-Nothing.ensures.table (ap shape_of c.put.ensures ∙ shape_of-Nothing)

pub returns-in-First : goal.returns-in-First
returns-in-First c =
    decays_along c.args.need _ _ _ _ _ _ _ _ (parts_shape c.args.node.now c.in-Pair.form c.in-Pair.ta c.in-Pair.tb c.in-Pair.a c.in-Pair.b _ _ _ c.replace-side.result c.in-Pair.b.value c.in-Pair.is c.in-Pair.form-is c.in-Pair.ta-is c.in-Pair.tb-is (c.replace-side.ensures.value ∙ c.deref_mut.ensures.value ∙ ap (λ (x : Box Node Global). x.value) c.in-Pair.a-is) refl)
    c.in-First.ensures.serves c.in-First.ensures.table (ap shape_of c.put-in-First.ensures)

pub returns-in-Second : goal.returns-in-Second
returns-in-Second c =
    decays_along c.args.need _ _ _ _ _ _ _ _ (parts_shape c.args.node.now c.in-Pair.form c.in-Pair.ta c.in-Pair.tb c.in-Pair.a c.in-Pair.b _ _ _ c.in-Pair.a.value c.replace-side-in-Second.result c.in-Pair.is c.in-Pair.form-is c.in-Pair.ta-is c.in-Pair.tb-is refl (c.replace-side-in-Second.ensures.value ∙ c.deref_mut-in-Second.ensures.value ∙ ap (λ (x : Box Node Global). x.value) c.in-Pair.b-is))
    c.in-Second.ensures.serves c.in-Second.ensures.table (ap shape_of c.put-in-Second.ensures)

pub returns-in-Maybe : goal.returns-in-Maybe
returns-in-Maybe c =
    decays_along c.args.need _ _ _ _ _ _ _ _ (parts_shape c.args.node.now c.in-Pair.form c.in-Pair.ta c.in-Pair.tb c.in-Pair.a c.in-Pair.b _ _ _ _ _ c.in-Pair.is c.in-Pair.form-is c.in-Pair.ta-is c.in-Pair.tb-is (ap (λ (x : Box Node Global). x.value) c.in-Pair.a-is) (ap (λ (x : Box Node Global). x.value) c.in-Pair.b-is))
    c.in-Maybe.ensures.serves c.in-Maybe.ensures.table (shape_of-Pair _ _ _ _ _)

pub returns-in-MaybeSwap : goal.returns-in-MaybeSwap
returns-in-MaybeSwap c =
    decays_along c.args.need _ _ _ _ _ _ _ _ (parts_shape c.args.node.now c.in-Pair.form c.in-Pair.ta c.in-Pair.tb c.in-Pair.a c.in-Pair.b _ _ _ _ _ c.in-Pair.is c.in-Pair.form-is c.in-Pair.ta-is c.in-Pair.tb-is (ap (λ (x : Box Node Global). x.value) c.in-Pair.a-is) (ap (λ (x : Box Node Global). x.value) c.in-Pair.b-is))
    c.in-MaybeSwap.ensures.serves c.in-MaybeSwap.ensures.table (parts_shape _ Form.AndMaybe c.swap.new.x c.swap.new.y c.swap-in-MaybeSwap.new.x c.swap-in-MaybeSwap.new.y _ _ _ _ _ refl refl (sym c.swap.ensures.x_after) (sym c.swap.ensures.y_after)
    (ap (λ (x : Box Node Global). x.value) (sym c.swap-in-MaybeSwap.ensures.x_after)) (ap (λ (x : Box Node Global). x.value) (sym c.swap-in-MaybeSwap.ensures.y_after)))

pub returns-in-Both : goal.returns-in-Both
returns-in-Both c =
    decays_along c.args.need _ _ _ _ _ _ _ _ (parts_shape c.args.node.now c.in-Pair.form c.in-Pair.ta c.in-Pair.tb c.in-Pair.a c.in-Pair.b _ _ _ _ _ c.in-Pair.is c.in-Pair.form-is c.in-Pair.ta-is c.in-Pair.tb-is (ap (λ (x : Box Node Global). x.value) c.in-Pair.a-is) (ap (λ (x : Box Node Global). x.value) c.in-Pair.b-is))
    c.in-Both.ensures.serves c.in-Both.ensures.table (shape_of-Pair _ _ _ _ _)

pub returns-in-Not : goal.returns-in-Not
returns-in-Not c =
    decays_along c.args.need _ _ _ _ _ _ _ _ (parts_shape c.args.node.now c.in-Pair.form c.in-Pair.ta c.in-Pair.tb c.in-Pair.a c.in-Pair.b _ _ _ _ _ c.in-Pair.is c.in-Pair.form-is c.in-Pair.ta-is c.in-Pair.tb-is (ap (λ (x : Box Node Global). x.value) c.in-Pair.a-is) (ap (λ (x : Box Node Global). x.value) c.in-Pair.b-is))
    c.in-Not.ensures.serves c.in-Not.ensures.table (shape_of-Pair _ _ _ _ _)

pub returns-in-NotSwap : goal.returns-in-NotSwap
returns-in-NotSwap c =
    decays_along c.args.need _ _ _ _ _ _ _ _ (parts_shape c.args.node.now c.in-Pair.form c.in-Pair.ta c.in-Pair.tb c.in-Pair.a c.in-Pair.b _ _ _ _ _ c.in-Pair.is c.in-Pair.form-is c.in-Pair.ta-is c.in-Pair.tb-is (ap (λ (x : Box Node Global). x.value) c.in-Pair.a-is) (ap (λ (x : Box Node Global). x.value) c.in-Pair.b-is))
    c.in-NotSwap.ensures.serves c.in-NotSwap.ensures.table (parts_shape _ Form.AndNot c.swap-in-NotSwap.new.y c.swap-in-NotSwap.new.x c.swap-in-NotSwap-2.new.y c.swap-in-NotSwap-2.new.x _ _ _ _ _ refl refl (sym c.swap-in-NotSwap.ensures.y_after) (sym c.swap-in-NotSwap.ensures.x_after)
    (ap (λ (x : Box Node Global). x.value) (sym c.swap-in-NotSwap-2.ensures.y_after)) (ap (λ (x : Box Node Global). x.value) (sym c.swap-in-NotSwap-2.ensures.x_after)))
