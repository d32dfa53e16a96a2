use Rattle.std.proofs.Common.{◌∙◌, ap, arith}
use Rattle.cover_law.specs.declared.border.Border.{Border}
use Rattle.cover_sets.proofs.BorderLists.{ascending, inside, inside_some}
use Rattle.cover_sets.proofs.Visits.{below_part, kept, visited}
use Rattle.cover_sets.proofs.edge_covers.Covers.pass.Goals as goal

pub number_of-number-requires-clause-ascending : goal.number_of-number-requires-clause-ascending
number_of-number-requires-clause-ascending g c = ascending c.args.features.now c.args.borders.now c.requires.borders.ascending

pub number_of-number-requires-clause-there : goal.number_of-number-requires-clause-there
number_of-number-requires-clause-there g c = inside c.args.features.now c.args.borders.now c.args.swept.edge c.requires.swept.inside

pub beside-left-requires-clause-ascending : goal.beside-left-requires-clause-ascending
beside-left-requires-clause-ascending g c = ascending c.args.features.now c.args.borders.now c.requires.borders.ascending

pub beside-left-requires-clause-there : goal.beside-left-requires-clause-there
beside-left-requires-clause-there g c = inside_some c.args.features.now c.args.borders.now c.args.swept.beside c.requires.there

pub beyond-requires-clause-set : goal.beyond-requires-clause-set
beyond-requires-clause-set g c = (c.beside-left.ensures c.args.features.now c.requires.beside 2147483647 c.requires.below).0

pub beyond-requires-clause-below : goal.beyond-requires-clause-below
beyond-requires-clause-below g c = below_part 2147483647 c.args.features.now c.index-borders-number.result.from c.index-borders-number.result.to c.requires.below

pub returns-clause-kept : goal.returns-clause-kept
returns-clause-kept g c = kept c.args.features.now c.args.borders.now c.requires.borders c.args.swept c.requires.swept c.number_of-number.result c.index-borders-number.result c.number_of-number.ensures.within c.index-borders-number.is
    (ap (λ (b : Border). b.edge) c.index-borders-number.is ∙ c.number_of-number.ensures.edge c.index-borders-number.result)
    c.args.self.now.sets c.beyond.new.self c.beside-left.result c.in_ok-right.right c.in_ok-right.ensures.keeps
    (c.beside-left.ensures c.args.features.now c.requires.beside) c.in_ok-right.ensures.beyond c.args.self.now.left.items c.args.self.now.right.items
    (let l = c.requires.left in let w = c.number_of-number.ensures.within in omega arith) (let r = c.requires.right in let w = c.number_of-number.ensures.within in omega arith)

pub returns-clause-visited : goal.returns-clause-visited
returns-clause-visited g c = visited c.args.features.now c.args.borders.now c.requires.borders c.args.swept c.requires.swept c.number_of-number.result c.index-borders-number.result c.number_of-number.ensures.within c.index-borders-number.is
    (ap (λ (b : Border). b.edge) c.index-borders-number.is ∙ c.number_of-number.ensures.edge c.index-borders-number.result)
    c.args.self.now.sets c.beyond.new.self c.beside-left.result c.in_ok-right.right c.in_ok-right.ensures.keeps
    (c.beside-left.ensures c.args.features.now c.requires.beside) c.in_ok-right.ensures.beyond c.args.self.now.left.items c.args.self.now.right.items
    (let l = c.requires.left in let w = c.number_of-number.ensures.within in omega arith) (let r = c.requires.right in let w = c.number_of-number.ensures.within in omega arith)
