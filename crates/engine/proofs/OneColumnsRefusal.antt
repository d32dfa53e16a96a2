-- A plan and two layers of columns are refused for one reason, and not where they are answered.
use Rattle.std.proofs.Common.{◌≡◌, ◌<◌, ◌≤◌, ◌++◌, ◌∙◌, ℕ, None, Some, ap, arith, refl, sym}
use Rattle.geom.specs.declared.fault.Fault.TheVariants.{TooManyTiles}
use Rattle.geom.specs.Segments.{layer_steps}
use Rattle.grid.specs.Tiles.{Tiling, most_tiles, tile_count}
use Rattle.columns.specs.declared.fault.ColumnsFault.{ColumnsFault}
use Rattle.columns.specs.declared.layout.Columns.{Columns}
use Rattle.columns.specs.Refusals.{AreAccepted, AreRefused}
use Rattle.layers.specs.declared.columns_refused.ColumnsRefused.{ColumnsRefused}
use Rattle.layers.specs.declared.columns_refused.ColumnsRefused.TheVariants.{A, B, Run}
use Rattle.layers.specs.declared.plan.Plan.{Plan}
use Rattle.engine.specs.ColumnsLaws.{ColumnsRefusalIsOne, RefusedColumnsMayNotRun}
use Rattle.layers.specs.ColumnsRefusals.{AreColumnsRefused, MayRunColumns, bad_a, bad_b, bad_tile, bad_workers, rings_of, too_many, too_many_tiles}
use Rattle.layers.specs.Grids.{IsGridOverRings}
use Rattle.engine.proofs.OneRefusal.{grid_same}

-- columns are not both accepted and refused, and refused for one fault
pub taken : (c : Columns) (f : ColumnsFault) → AreAccepted c → AreRefused c f → ⊥
taken c f h r = let e : None ≡ Some f = sym h ∙ r in cc

pub one_fault : (c : Columns) (f g : ColumnsFault) → AreRefused c f → AreRefused c g → f ≡ g
one_fault c f g h k = let e : Some f ≡ Some g = sym h ∙ k in cc

pub above : (most n : ℕ) → most < n → n ≤ most → ⊥
above most n h k = omega (arith, h, k)

module _ (limit : ℕ) (plan : Plan) (a b : Columns) where
  tiled : (g f : Tiling) → IsGridOverRings (rings_of a) (rings_of b) plan.side g → IsGridOverRings (rings_of a) (rings_of b) plan.side f → tile_count g ≡ tile_count f
  tiled g f o p = grid_same o.bounds p.bounds plan.side g f (layer_steps (rings_of a) ++ layer_steps (rings_of b)) o.are_bounds p.are_bounds o.is_grid p.is_grid

  few_tiles : (g f : Tiling) → IsGridOverRings (rings_of a) (rings_of b) plan.side g → IsGridOverRings (rings_of a) (rings_of b) plan.side f → most_tiles < tile_count g → tile_count f ≤ most_tiles → ⊥
  few_tiles g f o p many few = let e = tiled g f o p in omega (arith, e, many, few)

  one : (f g : ColumnsRefused) → AreColumnsRefused limit plan a b f → AreColumnsRefused limit plan a b g → f ≡ g
  one f g (bad_tile n) (bad_tile m) = refl
  one f g (bad_tile n) (bad_workers s m) = absurd (n s)
  one f g (bad_tile n) (bad_a s r) = absurd (n s.side)
  one f g (bad_tile n) (bad_b s h r) = absurd (n s.side)
  one f g (bad_tile n) (too_many s h k) = absurd (n s.side)
  one f g (bad_tile n) (too_many_tiles s h k t o u) = absurd (n s.side)
  one f g (bad_workers s n) (bad_tile m) = absurd (m s)
  one f g (bad_workers s n) (bad_workers t m) = refl
  one f g (bad_workers s n) (bad_a t r) = absurd (n t.workers)
  one f g (bad_workers s n) (bad_b t h r) = absurd (n t.workers)
  one f g (bad_workers s n) (too_many t h k) = absurd (n t.workers)
  one f g (bad_workers s n) (too_many_tiles t h k c o u) = absurd (n t.workers)
  one f g (bad_a s r) (bad_tile m) = absurd (m s.side)
  one f g (bad_a s r) (bad_workers t m) = absurd (m s.workers)
  one f g (bad_a {f = p} s r) (bad_a {f = q} t i) = ap (λ (x : ColumnsFault). A x) (one_fault a p q r i)
  one f g (bad_a {f = p} s r) (bad_b t h i) = absurd (taken a p h r)
  one f g (bad_a {f = p} s r) (too_many t h k) = absurd (taken a p h.first r)
  one f g (bad_a {f = p} s r) (too_many_tiles t h k c o u) = absurd (taken a p h.first r)
  one f g (bad_b s h r) (bad_tile m) = absurd (m s.side)
  one f g (bad_b s h r) (bad_workers t m) = absurd (m s.workers)
  one f g (bad_b s h r) (bad_a {f = q} t i) = absurd (taken a q h i)
  one f g (bad_b {f = p} s h r) (bad_b {f = q} t k i) = ap (λ (x : ColumnsFault). B x) (one_fault b p q r i)
  one f g (bad_b {f = p} s h r) (too_many t k l) = absurd (taken b p k.second r)
  one f g (bad_b {f = p} s h r) (too_many_tiles t k l c o u) = absurd (taken b p k.second r)
  one f g (too_many s h k) (bad_tile m) = absurd (m s.side)
  one f g (too_many s h k) (bad_workers t m) = absurd (m s.workers)
  one f g (too_many s h k) (bad_a {f = q} t i) = absurd (taken a q h.first i)
  one f g (too_many s h k) (bad_b {f = q} t l i) = absurd (taken b q h.second i)
  one f g (too_many s h k) (too_many t l m) = refl
  one f g (too_many s h k) (too_many_tiles t l m c o u) = absurd (above limit _ k m)
  one f g (too_many_tiles s h k c o u) (bad_tile m) = absurd (m s.side)
  one f g (too_many_tiles s h k c o u) (bad_workers t m) = absurd (m s.workers)
  one f g (too_many_tiles s h k c o u) (bad_a {f = q} t i) = absurd (taken a q h.first i)
  one f g (too_many_tiles s h k c o u) (bad_b {f = q} t l i) = absurd (taken b q h.second i)
  one f g (too_many_tiles s h k c o u) (too_many t l m) = absurd (above limit _ m k)
  one f g (too_many_tiles s h k c o u) (too_many_tiles t l m d p v) = ap (λ (n : ℕ). Run (TooManyTiles n)) (tiled c d o p)

  no_run : (f : ColumnsRefused) → AreColumnsRefused limit plan a b f → MayRunColumns limit plan a b → ⊥
  no_run f (bad_tile n) (g, r) = n r.ready.planned.side
  no_run f (bad_workers s n) (g, r) = n r.ready.planned.workers
  no_run f (bad_a {f = p} s i) (g, r) = taken a p r.accepted.first i
  no_run f (bad_b {f = p} s h i) (g, r) = taken b p r.accepted.second i
  no_run f (too_many s h k) (g, r) = above limit _ k r.ready.few
  no_run f (too_many_tiles s h k c o u) (g, r) = few_tiles c g o r.ready.is_grid u r.ready.few_tiles

pub columns_refusal_is_one : ColumnsRefusalIsOne
columns_refusal_is_one = one

pub refused_columns_may_not_run : RefusedColumnsMayNotRun
refused_columns_may_not_run = no_run
