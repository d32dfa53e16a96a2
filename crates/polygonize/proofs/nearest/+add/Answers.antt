use Rattle.std.proofs.Common.{◌<◌, ℕ, List, sym, ◌∙◌, subst, arith, length}
use Rattle.std.specs.Prelude.{All}
use Rattle.std.proofs.lemmas.List.Elements.{All-drop, All-take}
use Rattle.polygonize.specs.Below.{AreNearer}
use Rattle.polygonize.proofs.EdgesBelow.Searching.{halves_near, two_parts}
use Rattle.polygonize.proofs.nearest.+add.Goals as goal

pub add-requires : goal.add-requires
add-requires g t c =
    let a = c.split_at.ensures.front_len in
    let b = c.if-asked-le-FEW.false in
    λ κs h. (
      omega arith,
      (
        h,
        (
          c.requires.vertices_in,
          (
            subst (λ (xs : List ℕ). All (λ r. r < length c.args.vertices.now) xs) (sym c.split_at.ensures.front) (All-take (λ r. r < length c.args.vertices.now) _ c.args.asked.now c.requires.asked_in),
            (subst (λ (xs : List ℕ). All (λ k. k < length c.args.edges.list.now) xs) (sym c.deref.ensures.value) c.in_ok-part.ensures.inside, (c.in_ok-add_spanning.ensures.same_length ∙ c.requires.same_length, c.in_ok-add_spanning.ensures.known)),
          ),
        ),
      ),
    )

pub add-requires-2 : goal.add-requires-2
add-requires-2 g t c =
    let a = c.split_at.ensures.back_len in
    let b = c.if-asked-le-FEW.false in
    λ κs h. (
      omega arith,
      (
        h,
        (
          c.requires.vertices_in,
          (
            subst (λ (xs : List ℕ). All (λ r. r < length c.args.vertices.now) xs) (sym c.split_at.ensures.back) (All-drop (λ r. r < length c.args.vertices.now) _ c.args.asked.now c.requires.asked_in),
            (subst (λ (xs : List ℕ). All (λ k. k < length c.args.edges.list.now) xs) (sym c.deref-2.ensures.value) c.in_ok-rest.ensures.inside, (c.in_ok-add.ensures.same_length ∙ c.in_ok-add_spanning.ensures.same_length ∙ c.requires.same_length, c.in_ok-add.ensures.known)),
          ),
        ),
      ),
    )

pub returns : goal.returns
returns g t c =
    let edges = c.args.edges.list.now in
    let vertices = c.args.vertices.now in
    let first = c.split_at.result.0.now in
    let second = c.split_at.result.1.now in
    let h = subst (λ (ks : List ℕ). AreNearer edges vertices first ks c.add_spanning.new.best c.add.new.best) c.deref.ensures.value c.in_ok-add.ensures in
    let k = subst (λ (ks : List ℕ). AreNearer edges vertices second ks c.add.new.best c.add-2.new.best) c.deref-2.ensures.value c.in_ok-add-2.ensures in
    halves_near edges vertices c.args.asked.now first second c.args.numbers.now c.in_ok-part.part.items c.in_ok-rest.rest.items c.columns_of-columns.result c.columns_of.result c.columns_of-2.result c.args.best.now c.add_spanning.new.best c.add.new.best c.add-2.new.best
    (two_parts c.args.asked.now _ first second c.split_at.ensures.front c.split_at.ensures.back) c.in_ok-part.ensures.complete c.in_ok-rest.ensures.complete c.columns_of.ensures c.columns_of-2.ensures c.in_ok-add_spanning.ensures h k
