-- From what a part of the check says to what the whole check says.
use Rattle.std.proofs.Common.{refl, ◌≡◌, ◌∙◌, ◌+◌, ◌<◌, ℕ, List, subst, sym, ap, ap₂, arith}
use Rattle.geom.specs.declared.fault.Fault.{Fault}
use Rattle.geom.specs.declared.fault.Fault.TheVariants.{LayerLong, Syntax, NumberRange, RingShort, RingOpen, TooManySegments, BadTile, BadWorkers, TooManyTiles, NotNoded, Memory, Write}
use Rattle.geom.specs.declared.fault.Part.{Part}
use Rattle.geom.specs.declared.fault.Part.TheVariants.{A, B, Run}
use Rattle.geom.specs.Segments.{layer_steps}
use Rattle.std.specs.Prelude.{◌≤◌, IfErr, IsTrue, Result, Ok, Err, nat_lt}
use Rattle.grid.specs.Tiles.{Tiling}
use Rattle.geom.specs.Fault.{number_of}
use Rattle.wkt.specs.declared.outline.Outline.{Outline}
use Rattle.wkt.specs.declared.read.OutlinedLayer.{OutlinedLayer}
use Rattle.wkt.specs.Refusals.{IsRefusedWithin, plain}
use Rattle.layers.specs.Grids.{IsGridOver, IsJointGrid, IsTooFine, IsUsableGrid}
use Rattle.layers.specs.declared.plan.Plan.{Plan}
use Rattle.layers.specs.Refusals.{HasOutlineWithin, IsCheckedWithin, IsPlan, IsReading, IsRefusedAtWithin, bad_a, bad_b, too_many, too_many_tiles, segment_count, text_limit}

pub refused_a : (limit : ℕ) (plan : Plan) (a b : List ℕ) (part : Part) (f : Fault) → IsPlan plan → part ≡ A → IsRefusedWithin (text_limit limit) a f → IsRefusedAtWithin limit plan a b part f
refused_a limit plan a b part f p e h = subst (λ (q : Part). IsRefusedAtWithin limit plan a b q f) (sym e) (bad_a p h)

pub refused_b : (limit : ℕ) (plan : Plan) (a b : List ℕ) (part : Part) (f : Fault) (outline : Outline) → IsPlan plan → HasOutlineWithin (text_limit limit) a outline → part ≡ B → IsRefusedWithin (text_limit limit) b f → IsRefusedAtWithin limit plan a b part f
refused_b limit plan a b part f outline p o e h = subst (λ (q : Part). IsRefusedAtWithin limit plan a b q f) (sym e) (bad_b p o.0 o.1 h)

pub refused_total : (limit : ℕ) (plan : Plan) (a b : List ℕ) (part : Part) (f : Fault) (m n : Outline) → IsPlan plan → HasOutlineWithin (text_limit limit) a m → HasOutlineWithin (text_limit limit) b n
    → part ≡ Run → f ≡ TooManySegments (m.segments + n.segments) → limit < m.segments + n.segments → IsRefusedAtWithin limit plan a b part f
refused_total limit plan a b part f m n p o q e g h =
    let same : m.segments + n.segments ≡ segment_count o.0 + segment_count q.0 = ap₂ (λ (i j : ℕ). i + j) o.2.count q.2.count in
    let above : limit < segment_count o.0 + segment_count q.0 = subst (λ (k : ℕ). limit < k) same h in
    subst (λ (r : Part). IsRefusedAtWithin limit plan a b r f) (sym e)
    (subst (λ (g : Fault). IsRefusedAtWithin limit plan a b Run g) (sym (g ∙ ap (λ (k : ℕ). TooManySegments k) same)) (too_many p o.0 q.0 o.1 q.1 above))

-- the grid over the outlines of two layers is that over their segments
grid_over : (limit : ℕ) (a b : List ℕ) (m n : Outline) (o : HasOutlineWithin (text_limit limit) a m) (q : HasOutlineWithin (text_limit limit) b n) (side : ℕ) (g : Tiling) → IsJointGrid m.bounds n.bounds side g → IsGridOver o.0 q.0 side g
grid_over limit a b m n o q side g h = record { bounds = h.bounds; are_bounds = h.joint (layer_steps (plain o.0)) (layer_steps (plain q.0)) o.2.box q.2.box; is_grid = h.is_grid }

few_enough : (m n k l limit : ℕ) → m ≡ k → n ≡ l → m + n ≤ limit → k + l ≤ limit
few_enough m n k l limit e f h = omega arith

pub refused_tiles : (limit : ℕ) (plan : Plan) (a b : List ℕ) (part : Part) (f : Fault) (m n : Outline) → IsPlan plan → HasOutlineWithin (text_limit limit) a m → HasOutlineWithin (text_limit limit) b n
    → m.segments + n.segments ≤ limit → IsTooFine m.bounds n.bounds plan.side part f → IsRefusedAtWithin limit plan a b part f
refused_tiles limit plan a b part f m n p o q few h =
    let r = too_many_tiles p o.0 q.0 o.1 q.1 (few_enough _ _ _ _ limit o.2.count q.2.count few) h.grid (grid_over limit a b m n o q plan.side h.grid h.over) h.many in
    subst (λ (r : Part). IsRefusedAtWithin limit plan a b r f) (sym h.part_is) (subst (λ (g : Fault). IsRefusedAtWithin limit plan a b Run g) (sym h.fault_is) r)

pub checked_all : (limit : ℕ) (plan : Plan) (a b : List ℕ) (m n : Outline) (g : Tiling) → IsPlan plan → HasOutlineWithin (text_limit limit) a m → HasOutlineWithin (text_limit limit) b n
    → m.segments + n.segments ≤ limit → IsUsableGrid m.bounds n.bounds plan.side g → IsCheckedWithin limit plan a b m.segments n.segments g
checked_all limit plan a b m n g p o q few h = record {
  rings_a = o.0;
  rings_b = q.0;
  ready = record { planned = p; accepted_a = o.1; accepted_b = q.1; few = few_enough _ _ _ _ limit o.2.count q.2.count few; is_grid = grid_over limit a b m n o q plan.side g h.over; few_tiles = h.few };
  count_a = o.2.count;
  count_b = q.2.count;
}

-- what a layer is refused for is one of the first faults
pub known_fault : {M : Type 0} (limit : ℕ) (text : List ℕ) (reading : Result (OutlinedLayer M) Fault) → IsReading limit text reading → IfErr reading (λ fault. IsTrue (nat_lt (number_of fault) 5))
known_fault limit text (Ok read) h = tt
known_fault limit text (Err LayerLong) h = refl
known_fault limit text (Err (Syntax o)) h = refl
known_fault limit text (Err (NumberRange o)) h = refl
known_fault limit text (Err (RingShort o)) h = refl
known_fault limit text (Err (RingOpen o)) h = refl
known_fault limit text (Err (TooManySegments n)) h = absurd h
known_fault limit text (Err BadTile) h = absurd h
known_fault limit text (Err BadWorkers) h = absurd h
known_fault limit text (Err (TooManyTiles n)) h = absurd h
known_fault limit text (Err (NotNoded e f)) h = absurd h
known_fault limit text (Err Memory) h = absurd h
known_fault limit text (Err Write) h = absurd h
