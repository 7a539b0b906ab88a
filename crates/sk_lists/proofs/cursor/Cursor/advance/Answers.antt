-- It ends, or reads on in the chunk where it was, or reads in a later one.
use Rattle.std.proofs.Common.{◌∙◌, get_or, None, sym, ap}
use Rattle.sk_lists.proofs.SeekLaws.{Sought}
use Rattle.sk_lists.proofs.CursorLemmas.{more_here, seeks_here, seeks_behind, seeks_end, reads_once}
use Rattle.sk_lists.proofs.cursor.Cursor.advance.Given as given
use Rattle.sk_lists.proofs.cursor.Cursor.advance.Goals as goal

-- it reads on
here : (g : given.Over) (c : goal.After-read_on g) → Sought c.args.target c.args.need_wdf c.read_on.result c.args.list.now c.args.self.now.head c.args.self.now.run c.args.self.now.read c.read_on.new.self.head c.read_on.new.self.run c.read_on.new.self.read
here g c =
    seeks_here c.args.target c.args.need_wdf c.read_on.result c.args.list.now c.args.self.now.head c.args.self.now.run c.args.self.now.read c.read_on.new.self.head c.read_on.new.self.run c.read_on.new.self.read c.index-as_slice-self.result
    c.as_slice.ensures.sound c.requires.on c.requires.below
    c.read_on.ensures.run (c.index-as_slice-self.is ∙ ap (λ rs. get_or rs c.args.self.now.run c.index-as_slice-self.result) c.as_slice.ensures.value) c.read_on.ensures.reads

-- it ends
ends : (g : given.Over) (c : goal.After-self-then-at-chunks-1 g) → Sought c.args.target c.args.need_wdf 0 c.args.list.now c.args.self.now.head c.args.self.now.run c.args.self.now.read None c.find-at.result c.args.self.now.read
ends g c =
    seeks_end c.args.target c.args.need_wdf c.args.list.now c.args.self.now.head c.args.self.now.run c.args.self.now.read c.find-at.result c.args.self.now.read c.index-as_slice-self.result
    c.chunks.ensures.sound c.requires.on c.requires.below
    (c.index-as_slice-self.is ∙ ap (λ rs. get_or rs c.args.self.now.run c.index-as_slice-self.result) c.as_slice.ensures.value) (c.stops_in.ensures.skips c.if-stops_in.false)
    c.find-at.ensures.bound.0 c.find-at.ensures.skips (c.if-at-chunks.true ∙ c.chunks.ensures.value)

-- it reads in a later chunk
later : (g : given.Over) (c : goal.After-read_on-2 g) → Sought c.args.target c.args.need_wdf c.read_on-2.result c.args.list.now c.args.self.now.head c.args.self.now.run c.args.self.now.read c.read_on-2.new.self.head c.read_on-2.new.self.run c.read_on-2.new.self.read
later g c =
    seeks_behind c.args.target c.args.need_wdf c.read_on-2.result c.args.list.now c.args.self.now.head c.args.self.now.run c.args.self.now.read c.find-at.result c.read_on-2.new.self.head c.read_on-2.new.self.run c.read_on-2.new.self.read c.index-as_slice-self.result c.chunk.result.now
    c.chunks.ensures.sound c.requires.on c.requires.below
    (c.index-as_slice-self.is ∙ ap (λ rs. get_or rs c.args.self.now.run c.index-as_slice-self.result) c.as_slice.ensures.value) (c.stops_in.ensures.skips c.if-stops_in.false)
    c.find-at.ensures.bound.0 c.find-at.ensures.skips c.find-at.ensures.bound.1 (λ e. c.if-at-chunks.false (e ∙ sym c.chunks.ensures.value)) c.read_on-2.ensures.run c.chunk.ensures c.read_on-2.ensures.reads

pub read_on-requires-clause-begins : goal.read_on-requires-clause-begins
read_on-requires-clause-begins g c =
    more_here c.args.target c.args.self.now.head c.args.self.now.run c.args.self.now.read c.args.list.now c.index-as_slice-self.result c.requires.on c.requires.below
    (c.index-as_slice-self.is ∙ ap (λ rs. get_or rs c.args.self.now.run c.index-as_slice-self.result) c.as_slice.ensures.value) (c.stops_in.ensures.stops c.if-stops_in.true)

pub returns-then-stops_in-clause-passes : goal.returns-then-stops_in-clause-passes
returns-then-stops_in-clause-passes g c = (here g c).passes

pub returns-then-stops_in-clause-reads : goal.returns-then-stops_in-clause-reads
returns-then-stops_in-clause-reads g c = (here g c).reads

pub returns-then-stops_in-clause-moves : goal.returns-then-stops_in-clause-moves
returns-then-stops_in-clause-moves g c = (here g c).moves

pub returns-then-at-chunks-clause-passes : goal.returns-then-at-chunks-clause-passes
returns-then-at-chunks-clause-passes g c = (ends g c).passes

pub returns-then-at-chunks-clause-reads : goal.returns-then-at-chunks-clause-reads
returns-then-at-chunks-clause-reads g c = (ends g c).reads

pub returns-clause-passes : goal.returns-clause-passes
returns-clause-passes g c = (later g c).passes

pub returns-clause-reads : goal.returns-clause-reads
returns-clause-reads g c = (later g c).reads

pub returns-clause-once : goal.returns-clause-once
returns-clause-once g c = reads_once _ _ _ _ (later g c).reads

pub returns-clause-moves : goal.returns-clause-moves
returns-clause-moves g c = (later g c).moves
