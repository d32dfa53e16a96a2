use Rattle.std.proofs.Common.{ℕ, ◌<◌, ◌++◌, ◌∷◌, ◌∙◌, [], length, get_or, refl, subst, sym, arith}
use Rattle.std.specs.Prelude.{IsTrue}
use Rattle.std.proofs.lemmas.Bool.{false≢true}
use Rattle.std.proofs.lemmas.List.{get_or_default}
use Rattle.std.proofs.lemmas.List.Elements.{All-contains}
use Rattle.polygonize.specs.declared.cut_ring.CutRing.{CutRing}
use Rattle.polygonize.proofs.Filtered.{none_higher, none_wanted, one_higher, one_kept, one_left, one_passed}
use Rattle.polygonize.proofs.cut_ring.holes_among.Goals as goal
use Rattle.polygonize.proofs.cut_ring.holes_among.Goals.{then-rings-number+in_ok-push, else-rings-number}

pub loop-number-init : goal.loop-number-init
loop-number-init g c = rw c.new-holes.ensures.items (
  none_wanted (λ m. m) (λ k. (k < length c.args.rings.now) × ((d : CutRing g.row.A.Denot) → IsTrue (get_or c.args.rings.now k d).is_hole)) (λ r. (d : CutRing g.row.A.Denot) → IsTrue (get_or c.args.rings.now r d).is_hole) 0 (λ m h w. absurd (omega (arith, h))),
  none_higher,
)

pub loop-number-preserved : goal.loop-number-preserved
loop-number-preserved g c =
    let rings = c.args.rings.now in
    let at : ℕ → ℕ = λ m. m in
    let Wanted : ℕ → Type 0 = λ r. (d : CutRing g.row.A.Denot) → IsTrue (get_or rings r d).is_hole in
    let Fit : ℕ → Type 0 = λ k. (k < length rings) × Wanted k in
    let i = c.loop-number.number in
    let holes = c.loop-number.holes.items in
    elim c.if-rings-number.branch [
      | then-rings-number+in_ok-push w ↦ rw (w.holes-is, w.in_ok-push.ensures.items) (
        one_kept at Fit Wanted i i holes (holes ++ i ∷ []) refl (c.loop-number-test.true, λ d. subst (λ (ring : CutRing g.row.A.Denot). IsTrue ring.is_hole) (get_or_default rings i c.index-rings-number.result d c.loop-number-test.true) w.if-rings-number.true) refl c.loop-number.invariant.0,
        one_higher i holes c.loop-number.invariant.1,
      )
      | else-rings-number w ↦ rw w.holes-is (
        one_left at Fit Wanted i holes (λ q. false≢true (sym w.if-rings-number.false ∙ q c.index-rings-number.result)) c.loop-number.invariant.0,
        one_passed i holes c.loop-number.invariant.1,
      )
    ]

pub returns : goal.returns
returns g c =
    let rings = c.args.rings.now in
    let holes = c.loop-number.holes.items in
    let kept = c.loop-number.invariant.0 in
    record {
      ascend = c.loop-number.invariant.1.ascend;
      inside = λ k d h. (kept.fit k d h).0;
      each = λ r d h. (
        (λ i. (All-contains (λ k. (k < length rings) × ((d : CutRing g.row.A.Denot) → IsTrue (get_or rings k d).is_hole)) holes r kept.fit i).1 d),
        (λ q. kept.wanted r (let n = c.loop-number-test.false in omega (arith, n, h)) (λ e. subst (λ (ring : CutRing g.row.A.Denot). IsTrue ring.is_hole) (get_or_default rings r d e h) q)),
      );
    }
