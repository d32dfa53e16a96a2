use Rattle.std.proofs.Common.{◌≡◌, ◌<◌, ℕ, List, Some, arith, get_or, length, refl, subst, sym}
use Rattle.std.specs.Prelude.{slice_get}
use Rattle.std.proofs.lemmas.Option.{slice_get_read}
use Rattle.geom.specs.declared.edge.Edge.{Edge}
use Rattle.geom.specs.Limit.{AreInLimit}
use Rattle.geom.specs.Noded.{IsBad}
use Rattle.geom.proofs.Lists.{some_same}
use Rattle.hot_region.specs.Rects.{IsIn}
use Rattle.noding_test.specs.Verdicts.{common_corner}
use Rattle.noding_test.proofs.VerdictLaws.{none_beyond, none_more}
use Rattle.noding_test.proofs.finding.partner.Goals as goal

read : (edges : List Edge) (i : ℕ) (e : Edge) → i < length edges → e ≡ get_or edges i e → slice_get edges i ≡ Some e
read edges i e = slice_get_read edges (length edges) i e refl

pub returns-then-ends_before : goal.returns-then-ends_before
returns-then-ends_before c =
    let edges = c.args.edges.now in
    let e = c.index-edges-place.result in
    let f = c.index-edges-other.result in
    none_beyond edges c.requires.ascending (IsIn c.args.tile.now) c.args.place c.loop-other.other e f (read edges c.args.place e c.requires.place c.index-edges-place.is) (read edges c.loop-other.other f c.loop-other-test.true c.index-edges-other.is) (c.ends_before.ensures.0 c.if-ends_before.true) c.loop-other.invariant

pub is_own_bad-requires-clause-e_in : goal.is_own_bad-requires-clause-e_in
is_own_bad-requires-clause-e_in c =
    let e = c.index-edges-place.result in
    subst (λ (x : Edge). AreInLimit x.p x.q) (sym c.index-edges-place.is) (c.requires.limits c.args.place e c.requires.place)

pub is_own_bad-requires-clause-f_in : goal.is_own_bad-requires-clause-f_in
is_own_bad-requires-clause-f_in c =
    let f = c.index-edges-other.result in
    subst (λ (x : Edge). AreInLimit x.p x.q) (sym c.index-edges-other.is) (c.requires.limits c.loop-other.other f c.loop-other-test.true)

pub returns-then-is_own_bad : goal.returns-then-is_own_bad
returns-then-is_own_bad c =
    let edges = c.args.edges.now in
    let e = c.index-edges-place.result in
    let f = c.index-edges-other.result in
    record {
      place = c.loop-other.other;
      after = let h = c.loop-other.auto.other in omega arith;
      is_at = read edges c.loop-other.other f c.loop-other-test.true c.index-edges-other.is;
      bad = λ g at_g. subst (λ (x : Edge). IsBad x f × IsIn c.args.tile.now (common_corner x f)) (some_same (read edges c.args.place e c.requires.place c.index-edges-place.is) at_g) c.if-is_own_bad.ensures;
      first = c.loop-other.invariant;
    }

pub loop-other-preserved : goal.loop-other-preserved
loop-other-preserved c =
    let edges = c.args.edges.now in
    let e = c.index-edges-place.result in
    let f = c.index-edges-other.result in
    none_more edges c.requires.ascending (IsIn c.args.tile.now) c.args.place c.loop-other.other e f (read edges c.args.place e c.requires.place c.index-edges-place.is) (read edges c.loop-other.other f c.loop-other-test.true c.index-edges-other.is) c.loop-other.invariant c.if-is_own_bad.ensures

pub returns : goal.returns
returns c = λ j e f l m a b. c.loop-other.invariant j e f l (let h = c.loop-other-test.false in omega arith) a b
