use Rattle.std.proofs.Common.{◌∙◌, List, subst, sym}
use Rattle.std.specs.Prelude.{All, Contains}
use Rattle.geom.specs.declared.edge.Counted.{Counted}
use Rattle.geom.specs.declared.edge.Edge.{Edge}
use Rattle.geom.specs.declared.segment.Source.TheVariants.{A, B}
use Rattle.geom.specs.Limit.{AreInLimit}
use Rattle.face_label.specs.Strip.{AreColumnsFrom, IsStriped}
use Rattle.geom.proofs.Doubling.{back}
use Rattle.face_label.proofs.Striping.{layer_strips, odd_in_limit, width_at}
use Rattle.face_label.proofs.strip.layers_of.Goals as goal

pub build-requires-clause-in_limit : goal.build-requires-clause-in_limit
build-requires-clause-in_limit g c =
    let P : List Edge → Type 0 = All (λ e. AreInLimit e.p e.q) in
    subst P (sym (c.deref.ensures.value ∙ c.in_ok-a.ensures)) (odd_in_limit A c.args.counted.now c.requires.in_limit)

pub build-requires-2-clause-in_limit : goal.build-requires-2-clause-in_limit
build-requires-2-clause-in_limit g c =
    let P : List Edge → Type 0 = All (λ e. AreInLimit e.p e.q) in
    subst P (sym (c.deref-2.ensures.value ∙ c.in_ok-b.ensures)) (odd_in_limit B c.args.counted.now c.requires.in_limit)

pub returns : goal.returns
returns g c =
    let r = c.columns_from-low.result in
    let low = back r.0 c.columns_from-low.ensures.low_in in
    let high = back r.1 c.columns_from-low.ensures.high_in in
    let first : Contains c.args.counted.now c.index-counted-0.result = (0, c.requires.some, sym c.index-counted-0.is) in
    let from = subst (λ (one : Counted). AreColumnsFrom one.edge c.args.counted.now r.0 r.1) (sym c.index-counted-0.is) c.columns_from-low.ensures in
    let width = width_at r.0 r.1 _ _ c.strip_width-width.result low high c.strip_width-width.ensures in
    let a = c.in_ok-build.ensures in
    let b = c.in_ok-build-2.ensures in
    record {
      in_limit = c.requires.in_limit;
      a = layer_strips c.args.counted.now c.index-counted-0.result _ c.in_ok-build.field-0 r.0 r.1 c.strip_width-width.result first from width (a.low ∙ low) (a.high ∙ high) a.width
          (subst (λ (edges : List Edge). IsStriped edges c.in_ok-build.field-0) (c.deref.ensures.value ∙ c.in_ok-a.ensures) a.edges);
      b = layer_strips c.args.counted.now c.index-counted-0.result _ c.in_ok-build-2.field-0 r.0 r.1 c.strip_width-width.result first from width (b.low ∙ low) (b.high ∙ high) b.width
          (subst (λ (edges : List Edge). IsStriped edges c.in_ok-build-2.field-0) (c.deref-2.ensures.value ∙ c.in_ok-b.ensures) b.edges);
    }
