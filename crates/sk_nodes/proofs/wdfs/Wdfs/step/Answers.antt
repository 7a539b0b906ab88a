use Rattle.std.proofs.Common.{◌≡◌, ◌≤◌, ℕ, true, false, subst, sym, refl, ap, ◌∙◌, arith}
use Rattle.sk_lists.specs.Lists.{Runs}
use Rattle.sk_lists.specs.Seeks.{PassesPostings}
use Rattle.sk_lists.specs.Cursor.{left, IsOn}
use Rattle.sk_base.specs.declared.find.Scheme.{Scheme}
use Rattle.sk_nodes.specs.declared.leaf.Leaf.{Leaf}
use Rattle.sk_nodes.specs.Leaves.{runs_of}
use Rattle.sk_nodes.specs.Shapes.{leaf_at, top_at}
use Rattle.sk_nodes.proofs.LeafLaws.{sought_covers, head_of-reached, leaf_moved, head_is_below}
use Rattle.sk_chunks.specs.Postings.{Postings, is_below}
use Rattle.sk_nodes.proofs.WalkLaws.{head_below, goes_on, fewer_to, fewer_behind, one_passed}
use Rattle.sk_nodes.proofs.wdfs.Wdfs.step.Goals as goal

not_still : (target : ℕ) (ps : Postings) → is_below target ps ≡ true → is_below target ps ≡ false → ⊥
not_still target ps e f = cc

pub advance-read-requires-clause-below : goal.advance-read-requires-clause-below
advance-read-requires-clause-below g c =
    let old = leaf_at c.args.mark.now c.args.self.now in
    ap (λ (rs : Runs). is_below c.args.target (left old.cursor rs)) c.list-list.ensures.runs ∙ head_is_below c.args.index.now (top_at c.args.mark.now) old c.args.target c.requires.top c.requires.sound c.requires.below c.requires.target

pub returns-clause-lands : goal.returns-clause-lands
returns-clause-lands g c =
    let i = c.args.index.now in
    let old = leaf_at c.args.mark.now c.args.self.now in
    let runs = runs_of i old.source in
    let passes = subst (λ (rs : Runs). PassesPostings c.args.target 0 (left old.cursor rs) (left c.advance-read.new.self rs)) c.list-list.ensures.runs c.advance-read.ensures.passes in
    let covers = sought_covers 1 Scheme.Nnn 0 0 c.args.target runs old.cursor c.advance-read.new.self c.requires.sound.runs c.requires.sound.on c.requires.sound.light passes in
    let new : Leaf = record old { cursor = c.advance-read.new.self } in
    let on = leaf_moved i old new c.args.target c.requires.sound refl refl refl refl (subst (λ (rs : Runs). IsOn c.advance-read.new.self rs) c.list-list.ensures.runs c.advance-read.ensures.on) c.requires.sound.light covers in
    record {
      top = c.point.ensures.top i on;
      sound = c.point.ensures.sound i on;
      covers = covers;
      reached = subst (λ n. c.args.target ≤ n) (sym (c.point.ensures.at i on)) (head_of-reached c.args.target (left c.advance-read.new.self runs) c.requires.target passes.reached);
    }

pub returns-clause-walks : goal.returns-clause-walks
returns-clause-walks g c =
    let leaf = leaf_at c.args.mark.now c.args.self.now in
    let runs = runs_of c.args.index.now leaf.source in
    let old = c.args.self.now.cursor in
    let new = c.advance-read.new.self in
    let is = c.list-list.ensures.runs in
    let passes = subst (λ (rs : Runs). PassesPostings c.args.target 0 (left old rs) (left new rs)) is c.advance-read.ensures.passes in
    record {
      few = omega (arith, c.advance-read.ensures.most, c.from.ensures);
      still = λ le. absurd (not_still c.args.target (left old runs) (head_is_below c.args.index.now (top_at c.args.mark.now) leaf c.args.target c.requires.top c.requires.sound c.requires.below c.requires.target) (head_below c.args.target (left old runs) le));
      reached = head_of-reached c.args.target (left new runs) c.requires.target passes.reached;
      advances = goes_on runs old new c.args.target 0 c.requires.sound.on (subst (λ (rs : Runs). IsOn new rs) is c.advance-read.ensures.on) passes;
      to = λ point. fewer_to point passes.passed (left old runs) (left new runs) passes.is;
      behind = λ point. fewer_behind point passes.passed (left old runs) (left new runs) passes.is;
      passed = λ point past lt. one_passed point c.args.target passes.passed (left old runs) (left new runs) passes.is past lt (head_of-reached c.args.target (left new runs) c.requires.target passes.reached);
    }
