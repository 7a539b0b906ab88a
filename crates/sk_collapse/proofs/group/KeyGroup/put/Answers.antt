use Rattle.std.proofs.Common.{◌≢◌, ◌∙◌, ap, sym, subst, List, All}
use Rattle.sk_heap.specs.declared.hit.Hit.{Hit}
use Rattle.sk_collapse.specs.Groups.{group_in}
use Rattle.sk_collapse.proofs.GroupLemmas.{hits_differ, heap_gone, heap_one, heap_none}
use Rattle.sk_collapse.proofs.group.KeyGroup.put.Goals as goal
use Rattle.sk_collapse.proofs.group.KeyGroup.put.Goals.{then-is_some, else-is_some}

pub offer-gone-requires-clause-differs : goal.offer-gone-requires-clause-differs
offer-gone-requires-clause-differs c =
    subst (λ (hits : List Hit). All (λ h. h.rank.id ≢ c.args.hit.rank.id) hits) (sym c.grow.ensures.same.2) (hits_differ c.args.hit.rank.id c.args.self.now.best.hits c.requires.differs)

pub returns-clause-held : goal.returns-clause-held
returns-clause-held c =
    elim c.if-is_some.branch [
      | then-is_some w ↦
          ap group_in w.self-is
          ∙ heap_one c.args.self.now.best c.grow.new.self c.offer-gone.new.self c.args.hit c.grow.ensures.same c.offer-gone.result c.args.self.now.dropped c.offer-gone.ensures.gone c.offer-gone.ensures.held (sym c.is_some.ensures ∙ w.if-is_some.true)
      | else-is_some w ↦
          ap group_in w.self-is
          ∙ heap_none c.args.self.now.best c.grow.new.self c.offer-gone.new.self c.args.hit c.grow.ensures.same c.offer-gone.result c.args.self.now.dropped c.offer-gone.ensures.gone c.offer-gone.ensures.held (sym c.is_some.ensures ∙ w.if-is_some.false)
    ]

pub returns-clause-gone : goal.returns-clause-gone
returns-clause-gone c = heap_gone c.args.self.now.best c.grow.new.self c.offer-gone.new.self c.args.hit c.grow.ensures.same c.offer-gone.result c.offer-gone.ensures.gone
