-- A plan and two layers are refused for one reason, and not where they are answered.
use Rattle.std.proofs.Common.{◌≡◌, ℕ, ◌+◌, ◌*◌, ◌++◌, ◌<◌, ◌≤◌, List, [], Option, Some, None, refl, sym, ap, ap₂, subst, ◌∙◌, arith, pos, ◌+ℤ◌, ℤ}
use Rattle.std.specs.Prelude.{◌≤ℤ◌}
use Rattle.geom.specs.declared.fault.Fault.{Fault}
use Rattle.geom.specs.declared.fault.Fault.TheVariants.{TooManySegments, TooManyTiles}
use Rattle.geom.specs.declared.fault.Part.{Part}
use Rattle.geom.specs.declared.point.Pt.{Pt}
use Rattle.geom.specs.declared.rect.Rect.{Rect}
use Rattle.geom.specs.Bounds.{HoldsSteps, IsBox}
use Rattle.geom.specs.Segments.{layer_steps}
use Rattle.geom.proofs.Integers.{linear}
use Rattle.geom.proofs.Lists.{contains_in}
use Rattle.geom.proofs.Numbers.{both_ways}
use Rattle.grid.specs.Tiles.{IsGridOf, IsOver, Owns, Tiling, most_tiles, steps, tile_count}
use Rattle.wkt.specs.LayerText.{Ring}
use Rattle.wkt.specs.Refusals.{IsAcceptedWithin, IsRefusedWithin, plain}
use Rattle.wkt.proofs.Exclusive.{not_both, same_refusal}
use Rattle.engine.specs.Determined.{RefusalIsOneWithin, RefusedMayNotRunWithin}
use Rattle.layers.specs.Grids.{AreBoundsOf, IsGridOver}
use Rattle.layers.specs.Refusals.{IsRefusedAtWithin, MayRunWithin, bad_a, bad_b, bad_tile, bad_workers, segment_count, text_limit, too_many, too_many_tiles}
use Rattle.layers.specs.declared.plan.Plan.{Plan}
use Rattle.engine.proofs.Determined.{one_layer}

-- ---- one number of tiles

-- no box is the least of no steps
abbrev dot : ℤ → Rect
dot z = record { lo = record { x = z; y = z }; hi = record { x = z; y = z }; wide = omega (arith, linear); high = omega (arith, linear) }

no_steps : (q : Rect) → HoldsSteps q []
no_steps q s i = absurd (contains_in [] s i)

pub no_box : (r : Rect) → IsBox [] r → ⊥
no_box r h =
    let a = (h.least (dot (pos 0)) (no_steps (dot (pos 0)))).0.right in
    let b = (h.least (dot (pos 1)) (no_steps (dot (pos 1)))).0.left in
    apart r.lo.x a b
  where
    apart : (x : ℤ) → x ≤ℤ pos 0 → pos 1 ≤ℤ x → ⊥
    apart x h k = omega (arith, linear, h, k)

counts_same : (c d : ℕ) (w : ℤ) → pos c ≡ w → pos d ≡ w → c ≡ d
counts_same c d w e f = let g : pos c ≡ pos d = e ∙ sym f in cc

-- two least boxes have the same corners: by the least x and y, then by the greatest
pub same_corners : (r s : Rect) (taken : List (Pt × Pt)) → IsBox taken r → IsBox taken s → (r.lo.x ≡ s.lo.x) × (r.lo.y ≡ s.lo.y) × (r.hi.x ≡ s.hi.x) × (r.hi.y ≡ s.hi.y)
same_corners r s taken h k = (
  both_ways r.lo.x s.lo.x (k.least r h.holds).0.left (h.least s k.holds).0.left,
  both_ways r.lo.y s.lo.y (k.least r h.holds).0.bottom (h.least s k.holds).0.bottom,
  both_ways r.hi.x s.hi.x (h.least s k.holds).1.right (k.least r h.holds).1.right,
  both_ways r.hi.y s.hi.y (h.least s k.holds).1.top (k.least r h.holds).1.top,
)

over_path : (r s : Rect) (side : ℕ) (g f : Tiling) (taken : List (Pt × Pt)) → IsBox taken r → IsBox taken s → IsOver r side g → IsOver s side f → g ≡ f
over_path r s side g f taken h k o p = λ i. record { left = (o.left_is ∙ e.0 ∙ sym p.left_is) i; bottom = (o.bottom_is ∙ e.1 ∙ sym p.bottom_is) i; side = (o.side_is ∙ sym p.side_is) i; columns = columns i; rows = rows i }
  where
    e : (r.lo.x ≡ s.lo.x) × (r.lo.y ≡ s.lo.y) × (r.hi.x ≡ s.hi.x) × (r.hi.y ≡ s.hi.y)
    e = same_corners r s taken h k

    columns : g.columns ≡ f.columns
    columns = counts_same g.columns f.columns _ (o.columns_are ∙ ap₂ (λ (a b : ℤ). steps a side b +ℤ pos 1) e.0 e.2) p.columns_are

    rows : g.rows ≡ f.rows
    rows = counts_same g.rows f.rows _ (o.rows_are ∙ ap₂ (λ (a b : ℤ). steps a side b +ℤ pos 1) e.1 e.3) p.rows_are

pub grid_same : (bounds other : Option Rect) (side : ℕ) (g f : Tiling) (taken : List (Pt × Pt)) → AreBoundsOf taken bounds → AreBoundsOf taken other → IsGridOf bounds side g → IsGridOf other side f → tile_count g ≡ tile_count f
grid_same None None side g f taken h k o p = ap₂ (λ (m n : ℕ). m * n) (o.2 ∙ sym p.2) (o.1 ∙ sym p.1)
grid_same None (Some s) side g f taken h k o p = absurd (no_box s (subst (λ (zs : List (Pt × Pt)). IsBox zs s) h k))
grid_same (Some r) None side g f taken h k o p = absurd (no_box r (subst (λ (zs : List (Pt × Pt)). IsBox zs r) k h))
grid_same (Some r) (Some s) side g f taken h k o p = ap tile_count (over_path r s side g f taken h k o p)

-- it is the grid of either
pub grid_over_same : (bounds other : Option Rect) (side : ℕ) (g : Tiling) (taken : List (Pt × Pt)) → AreBoundsOf taken bounds → AreBoundsOf taken other → IsGridOf bounds side g → IsGridOf other side g
grid_over_same None None side g taken h k o = o
grid_over_same None (Some s) side g taken h k o = absurd (no_box s (subst (λ (zs : List (Pt × Pt)). IsBox zs s) h k))
grid_over_same (Some r) None side g taken h k o = absurd (no_box r (subst (λ (zs : List (Pt × Pt)). IsBox zs r) k h))
grid_over_same (Some r) (Some s) side g taken h k o =
    let e = same_corners r s taken h k in
    record { left_is = o.left_is ∙ e.0; bottom_is = o.bottom_is ∙ e.1; side_is = o.side_is; columns_are = o.columns_are ∙ ap₂ (λ (a b : ℤ). steps a side b +ℤ pos 1) e.0 e.2; rows_are = o.rows_are ∙ ap₂ (λ (a b : ℤ). steps a side b +ℤ pos 1) e.1 e.3 }

-- and it has the same tiles
pub owns_same : (bounds : Option Rect) (other : Option Rect) (side : ℕ) (g f : Tiling) (taken : List (Pt × Pt)) → AreBoundsOf taken bounds → AreBoundsOf taken other → IsGridOf bounds side g → IsGridOf other side f
    → (j : ℕ) (p : Pt) → Owns g j p → Owns f j p
owns_same None other side g f taken h k o p j z w = absurd (let l = w.in_columns in let e = o.1 in omega (arith, l, e))
owns_same (Some r) None side g f taken h k o p j z w = absurd (no_box r (subst (λ (zs : List (Pt × Pt)). IsBox zs r) k h))
owns_same (Some r) (Some s) side g f taken h k o p j z w = subst (λ (t : Tiling). Owns t j z) (over_path r s side g f taken h k o p) w

-- ---- one refusal
module _ (limit : ℕ) (plan : Plan) (a b : List ℕ) where
  taken : (text : List ℕ) (rings : List Ring) (f : Fault) → IsAcceptedWithin (text_limit limit) text rings → IsRefusedWithin (text_limit limit) text f → ⊥
  taken text rings f h r = not_both (text_limit limit) text (plain rings) f h.short (rings, h.accepted, refl) r

  counted : (x y v w : List Ring) → IsAcceptedWithin (text_limit limit) a x → IsAcceptedWithin (text_limit limit) b y → IsAcceptedWithin (text_limit limit) a v → IsAcceptedWithin (text_limit limit) b w → segment_count x + segment_count y ≡ segment_count v + segment_count w
  counted x y v w h k m n = ap₂ (λ (i j : List Ring). segment_count i + segment_count j) (one_layer a x v h.accepted m.accepted) (one_layer b y w k.accepted n.accepted)

  tiled : (x y v w : List Ring) → IsAcceptedWithin (text_limit limit) a x → IsAcceptedWithin (text_limit limit) b y → IsAcceptedWithin (text_limit limit) a v → IsAcceptedWithin (text_limit limit) b w → (g f : Tiling) → IsGridOver x y plan.side g → IsGridOver v w plan.side f → tile_count g ≡ tile_count f
  tiled x y v w h k m n g f o p = grid_same o.bounds p.bounds plan.side g f (layer_steps (plain v) ++ layer_steps (plain w))
      (subst (λ (zs : List (Pt × Pt)). AreBoundsOf zs o.bounds) (ap₂ (λ (i j : List Ring). layer_steps (plain i) ++ layer_steps (plain j)) (one_layer a x v h.accepted m.accepted) (one_layer b y w k.accepted n.accepted)) o.are_bounds)
      p.are_bounds o.is_grid p.is_grid

  above : (most m n : ℕ) → most < m → n ≤ most → m ≡ n → ⊥
  above most m n h k e = omega (arith, h, k, e)

  one : (p q : Part) (f g : Fault) → IsRefusedAtWithin limit plan a b p f → IsRefusedAtWithin limit plan a b q g → (p ≡ q) × (f ≡ g)
  one p q f g (bad_tile n) (bad_tile m) = (refl, refl)
  one p q f g (bad_tile n) (bad_workers s m) = absurd (n s)
  one p q f g (bad_tile n) (bad_a s r) = absurd (n s.side)
  one p q f g (bad_tile n) (bad_b s x h r) = absurd (n s.side)
  one p q f g (bad_tile n) (too_many s x y h k l) = absurd (n s.side)
  one p q f g (bad_tile n) (too_many_tiles s x y h k l t o u) = absurd (n s.side)
  one p q f g (bad_workers s n) (bad_tile m) = absurd (m s)
  one p q f g (bad_workers s n) (bad_workers t m) = (refl, refl)
  one p q f g (bad_workers s n) (bad_a t r) = absurd (n t.workers)
  one p q f g (bad_workers s n) (bad_b t x h r) = absurd (n t.workers)
  one p q f g (bad_workers s n) (too_many t x y h k l) = absurd (n t.workers)
  one p q f g (bad_workers s n) (too_many_tiles t x y h k l i o u) = absurd (n t.workers)
  one p q f g (bad_a s r) (bad_tile m) = absurd (m s.side)
  one p q f g (bad_a s r) (bad_workers t m) = absurd (m s.workers)
  one p q f g (bad_a s r) (bad_a t i) = (refl, same_refusal (text_limit limit) a f g r i)
  one p q f g (bad_a s r) (bad_b t x h i) = absurd (taken a x f h r)
  one p q f g (bad_a s r) (too_many t x y h k l) = absurd (taken a x f h r)
  one p q f g (bad_a s r) (too_many_tiles t x y h k l i o u) = absurd (taken a x f h r)
  one p q f g (bad_b s x h r) (bad_tile m) = absurd (m s.side)
  one p q f g (bad_b s x h r) (bad_workers t m) = absurd (m s.workers)
  one p q f g (bad_b s x h r) (bad_a t i) = absurd (taken a x g h i)
  one p q f g (bad_b s x h r) (bad_b t y k i) = (refl, same_refusal (text_limit limit) b f g r i)
  one p q f g (bad_b s x h r) (too_many t v w m k l) = absurd (taken b w f k r)
  one p q f g (bad_b s x h r) (too_many_tiles t v w m k l i o u) = absurd (taken b w f k r)
  one p q f g (too_many s x y h k l) (bad_tile m) = absurd (m s.side)
  one p q f g (too_many s x y h k l) (bad_workers t m) = absurd (m s.workers)
  one p q f g (too_many s x y h k l) (bad_a t i) = absurd (taken a x g h i)
  one p q f g (too_many s x y h k l) (bad_b t v m i) = absurd (taken b y g k i)
  one p q f g (too_many s x y h k l) (too_many t v w m n i) = (refl, ap (λ (j : ℕ). TooManySegments j) (counted x y v w h k m n))
  one p q f g (too_many s x y h k l) (too_many_tiles t v w m n i c o u) = absurd (above limit _ _ l i (counted x y v w h k m n))
  one p q f g (too_many_tiles s x y h k l c o u) (bad_tile m) = absurd (m s.side)
  one p q f g (too_many_tiles s x y h k l c o u) (bad_workers t m) = absurd (m s.workers)
  one p q f g (too_many_tiles s x y h k l c o u) (bad_a t i) = absurd (taken a x g h i)
  one p q f g (too_many_tiles s x y h k l c o u) (bad_b t v m i) = absurd (taken b y g k i)
  one p q f g (too_many_tiles s x y h k l c o u) (too_many t v w m n i) = absurd (above limit _ _ i l (counted v w x y m n h k))
  one p q f g (too_many_tiles s x y h k l c o u) (too_many_tiles t v w m n i d z j) = (refl, ap (λ (e : ℕ). TooManyTiles e) (tiled x y v w h k m n c d o z))

  no_run : (p : Part) (f : Fault) → IsRefusedAtWithin limit plan a b p f → MayRunWithin limit plan a b → ⊥
  no_run p f (bad_tile n) (v, w, g, r) = n r.planned.side
  no_run p f (bad_workers s n) (v, w, g, r) = n r.planned.workers
  no_run p f (bad_a s i) (v, w, g, r) = taken a v f r.accepted_a i
  no_run p f (bad_b s x h i) (v, w, g, r) = taken b w f r.accepted_b i
  no_run p f (too_many s x y h k l) (v, w, g, r) = above limit _ _ l r.few (counted x y v w h k r.accepted_a r.accepted_b)
  no_run p f (too_many_tiles s x y h k l c o u) (v, w, g, r) = above most_tiles _ _ u r.few_tiles (tiled x y v w h k r.accepted_a r.accepted_b c g o r.is_grid)

pub refusal_is_one : RefusalIsOneWithin
refusal_is_one = one

pub refused_may_not_run : RefusedMayNotRunWithin
refused_may_not_run = no_run
