-- Numbers stay numbers while more sets are made.
use Rattle.std.proofs.Common.{refl}
use Rattle.cover_sets_tests.proofs.sets.are_exchanged.Goals as goal

pub beyond-requires-2-clause-ascending : goal.beyond-requires-2-clause-ascending
beyond-requires-2-clause-ascending c = c.if-not-are_features.ensures.ascending refl

pub beyond-requires-3-clause-set : goal.beyond-requires-3-clause-set
beyond-requires-3-clause-set c = (c.in_ok-turned.ensures.keeps c.in_ok-beyond.beyond c.in_ok-beyond.ensures.beyond.0).0

pub has_just-requires : goal.has_just-requires
has_just-requires c =
    let n = c.in_ok-first.first in
    let a = c.in_ok-second.ensures.keeps n c.in_ok-first.ensures.set.0 in
    let b = c.in_ok-beyond.ensures.keeps n a.0 in
    let e = c.in_ok-turned.ensures.keeps n b.0 in
    let f = c.in_ok-back.ensures.keeps n e.0 in
    (c.in_ok-listed.ensures.keeps n f.0).0

pub has_just-requires-then-branch : goal.has_just-requires-then-branch
has_just-requires-then-branch c =
    let n = c.in_ok-second.second in
    let b = c.in_ok-beyond.ensures.keeps n c.in_ok-second.ensures.set.0 in
    let e = c.in_ok-turned.ensures.keeps n b.0 in
    let f = c.in_ok-back.ensures.keeps n e.0 in
    (c.in_ok-listed.ensures.keeps n f.0).0

pub has_just-requires-then-branch-2 : goal.has_just-requires-then-branch-2
has_just-requires-then-branch-2 c =
    let n = c.in_ok-beyond.beyond in
    let e = c.in_ok-turned.ensures.keeps n c.in_ok-beyond.ensures.beyond.0 in
    let f = c.in_ok-back.ensures.keeps n e.0 in
    (c.in_ok-listed.ensures.keeps n f.0).0
