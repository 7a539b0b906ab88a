use Rattle.std.proofs.Common.{◌≤◌, subst, sym, refl, ap, ◌∙◌, arith}
use Rattle.sk_lists.specs.Lists.{Runs}
use Rattle.sk_lists.specs.Seeks.{PassesPostings}
use Rattle.sk_lists.specs.Cursor.{left, IsOn}
use Rattle.sk_nodes.specs.declared.leaf.Leaf.{Leaf}
use Rattle.sk_nodes.specs.Leaves.{runs_of, head_of}
use Rattle.sk_nodes.proofs.LeafLaws.{sought_covers, head_of-reached, leaf_moved}
use Rattle.sk_chunks.specs.Postings.{is_below}
use Rattle.sk_lists.specs.declared.cursor.Cursor.{Cursor}
use Rattle.sk_nodes.proofs.WalkLaws.{head_below, goes_on, fewer_to, fewer_behind, one_passed}
use Rattle.sk_nodes.proofs.leaf.Leaf.seek.Goals as goal

pub returns-clause-lands : goal.returns-clause-lands
returns-clause-lands g c =
    let i = c.args.index.now in
    let old = c.args.self.now in
    let runs = runs_of i old.source in
    let passes = subst (λ (rs : Runs). PassesPostings c.args.target c.wdf_for-self.result (left old.cursor rs) (left c.seek-read.new.self rs)) c.list_of-list.ensures.runs c.seek-read.ensures.passes in
    let covers = sought_covers old.factor old.scheme c.wdf_for-self.result c.args.need c.args.target runs old.cursor c.seek-read.new.self c.requires.sound.runs c.requires.sound.on c.wdf_for-self.ensures passes in
    let new : Leaf = record old { need_wdf = c.wdf_for-self.result; need = c.args.need; cursor = c.seek-read.new.self } in
    let on = leaf_moved i old new c.args.target c.requires.sound refl refl refl refl (subst (λ (rs : Runs). IsOn c.seek-read.new.self rs) c.list_of-list.ensures.runs c.seek-read.ensures.on) c.wdf_for-self.ensures covers in
    record {
      top = c.show.ensures.top i on;
      sound = on;
      covers = covers;
      reached = subst (λ n. c.args.target ≤ n) (sym (c.show.ensures.at i on)) (head_of-reached c.args.target (left c.seek-read.new.self runs) c.requires.target passes.reached);
    }

pub returns-clause-at : goal.returns-clause-at
returns-clause-at g c = c.show.ensures.at c.args.index.now (returns-clause-lands g c).sound

pub returns-clause-walks : goal.returns-clause-walks
returns-clause-walks g c =
    let runs = runs_of c.args.index.now c.args.self.now.source in
    let old = c.args.self.now.cursor in
    let new = c.seek-read.new.self in
    let is = c.list_of-list.ensures.runs in
    let passes = subst (λ (rs : Runs). PassesPostings c.args.target c.wdf_for-self.result (left old rs) (left new rs)) is c.seek-read.ensures.passes in
    record {
      few = omega (arith, c.seek-read.ensures.most, c.from.ensures);
      still = λ le.
          let same = c.seek-read.ensures.stays (ap (λ (rs : Runs). is_below c.args.target (left old rs)) is ∙ head_below c.args.target (left old runs) le) in
          (omega (arith, same.0, c.from.ensures), ap (λ (cursor : Cursor). head_of (left cursor runs)) same.1);
      reached = head_of-reached c.args.target (left new runs) c.requires.target passes.reached;
      advances = goes_on runs old new c.args.target c.wdf_for-self.result c.requires.sound.on (subst (λ (rs : Runs). IsOn new rs) is c.seek-read.ensures.on) passes;
      to = λ point. fewer_to point passes.passed (left old runs) (left new runs) passes.is;
      behind = λ point. fewer_behind point passes.passed (left old runs) (left new runs) passes.is;
      passed = λ point past lt. one_passed point c.args.target passes.passed (left old runs) (left new runs) passes.is past lt (head_of-reached c.args.target (left new runs) c.requires.target passes.reached);
    }
