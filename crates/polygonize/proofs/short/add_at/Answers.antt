use Rattle.std.proofs.Common.{◌≡◌, ◌+◌, ◌<◌, ◌≤◌, ℕ, inr, refl, length, subst, sym, arith, rules, FitsSigned, w32}
use Rattle.polygonize.specs.Below.{IsAsNear, best_at, vertex_at}
use Rattle.polygonize.specs.Next.{edge_at}
use Rattle.polygonize.proofs.EdgesBelow.Floors.{floor_kept, floors_set, inside_set}
use Rattle.polygonize.proofs.EdgesBelow.Nearness.{known_itself, known_lesser, near_itself}
use Rattle.polygonize.proofs.EdgesBelow.Searching.{nobody_asked, one_asked}
use Rattle.polygonize.proofs.short.add_at.Goals as goal

pub returns-clause-nearer : goal.returns-clause-nearer
returns-clause-nearer c =
    let edges = c.args.edges.list.now in
    let vertices = c.args.vertices.now in
    let number = c.args.number in
    let r = c.args.place in
    let v = vertex_at vertices r in
    let best = c.args.best.now in
    let found = c.gap_below-found.result in
    let gap = c.gap_below-found.ensures.gap in
    let within : r < length best = let a = c.requires.same_length in let b = c.requires.place_in in omega (arith, a, b) in
    let known = known_itself edges v number found c.requires.number_in c.gap_below-found.ensures.number gap in
    one_asked edges vertices (λ k. k ≡ number) (λ s. ⊥) (λ s. (r ≤ s) × (s < r + 1)) r best best _ found c.nearer.result
    (λ s h. let a = h.0 in let b = h.1 in inr (omega (arith, a, b))) within refl known
    (λ k e. subst (λ (m : ℕ). IsAsNear (edge_at edges m) v found) (sym e) (near_itself (edge_at edges number) v found gap)) c.nearer.ensures
    (nobody_asked edges vertices (λ k. k ≡ number) (λ s. ⊥) best (λ s e. e) c.requires.known)

pub returns-clause-floors : goal.returns-clause-floors
returns-clause-floors c =
    let edges = c.args.edges.list.now in
    let r = c.args.place in
    let v = vertex_at c.args.vertices.now r in
    let best = c.args.best.now in
    let found = c.gap_below-found.result in
    let least = c.nearer.result in
    let within : r < length best = let a = c.requires.same_length in let b = c.requires.place_in in omega (arith, a, b) in
    let known = known_itself edges v c.args.number found c.requires.number_in c.gap_below-found.ensures.number c.gap_below-found.ensures.gap in
    let inside = inside_set edges v best r least within (known_lesser edges v (best_at best r) found least (c.requires.known r) known c.nearer.ensures) in
    let kept = floor_kept edges _ c.floor_of.result c.args.edges.in_limit inside c.floor_of.ensures in
    let fits : FitsSigned w32 c.floor_of.result = search rules in
    rw kept (floors_set edges best c.args.floors.now r least c.floor_of.result within fits c.floor_of.ensures c.requires.floors)
