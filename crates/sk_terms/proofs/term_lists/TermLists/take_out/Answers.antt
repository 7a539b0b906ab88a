-- The list at the number is changed.
use Rattle.sk_dict.specs.Terms.{term_at}
use Rattle.sk_dict.proofs.NumberLaws.{number_of-term_at}
use Rattle.sk_sorted.specs.Entries.{without}
use Rattle.sk_terms.proofs.ListedLemmas.{changed_at}
use Rattle.sk_terms.proofs.term_lists.TermLists.take_out.Goals as goal

pub returns-clause-takes : goal.returns-clause-takes
returns-clause-takes c =
    let terms = c.args.self.now.terms in
    changed_at (without c.args.id) c.args.self.now c.take_out_at.new.self (term_at terms c.args.number) c.args.number c.take_out_at.ensures.sound c.requires.there
    (number_of-term_at terms c.args.number c.take_out_at.ensures.sound.different c.requires.there) c.take_out_at.ensures.terms c.take_out_at.ensures.lists
