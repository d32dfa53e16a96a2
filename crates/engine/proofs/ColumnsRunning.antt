-- How a call on columns ends, from what was checked and made.
use Rattle.std.proofs.Common.{◌≡◌, ◌∙◌, ℕ, List, length, refl, subst, sym}
use Rattle.std.specs.Prelude.{Result, Ok, Err, IfOk, MatchResult}
use Rattle.geom.specs.declared.edge.Counted.{Counted}
use Rattle.geom.specs.declared.fault.Fault.TheVariants.{LayerLong, Syntax, NumberRange, RingShort, RingOpen, TooManySegments, BadTile, BadWorkers, TooManyTiles, NotNoded, Memory, Write}
use Rattle.geom.specs.declared.fault.NoMemory.{NoMemory}
use Rattle.geom.specs.declared.op.Op.{Op}
use Rattle.geom.specs.Canonical.{Shape}
use Rattle.linking.specs.declared.rounded.TileNumbers.{TileNumbers}
use Rattle.columns.specs.declared.layout.Columns.{Columns}
use Rattle.columns.specs.Answers.{AreColumnsOf}
use Rattle.layers.specs.declared.columns_checking.CheckedColumns.{CheckedColumns}
use Rattle.engine.specs.declared.columns_output.ColumnsOutput.{ColumnsOutput}
use Rattle.layers.specs.declared.columns_refused.ColumnsRefused.{ColumnsRefused}
use Rattle.layers.specs.declared.columns_refused.ColumnsRefused.TheVariants.{A, B, Run}
use Rattle.layers.specs.declared.plan.Limits.{Limits}
use Rattle.layers.specs.declared.plan.Plan.{Plan}
use Rattle.layers.specs.ColumnsRefusals.{AreColumnsReady, AreColumnsRefused, IsCheckOf, bad_a, bad_b, bad_tile, bad_workers, rings_of, too_many, too_many_tiles}
use Rattle.engine.specs.ColumnsRuns.{AreColumnsOver, DeclinesColumns}
use Rattle.results.specs.Results.{IsResult}
use Rattle.engine.specs.RingLayers.{AreRingsRounded}
use Rattle.engine.specs.Rounds.{IsRemade, TellsTiles}

-- ---- what was made
pub columns_made : {M : Type 0} (op : Op) (a b : Columns) (c : CheckedColumns) (counted : List Counted) (tiles : List TileNumbers) (remade : ℕ) (polygons : List Shape) (made : ColumnsOutput M)
    → AreColumnsOf polygons made.columns → made.report.segments_a ≡ c.segments_a → made.report.segments_b ≡ c.segments_b → made.report.edges ≡ length counted
    → TellsTiles tiles made.report.hot made.report.records made.report.tiles.items → made.report.remade ≡ remade
    → IsCheckOf a b c → AreRingsRounded (rings_of a) (rings_of b) c.grid counted tiles → IsRemade remade → IsResult op counted polygons
    → AreColumnsOver c.limits.segments op c.plan a b counted polygons made
columns_made op a b c counted tiles remade polygons made columns first second edges told made_anew check rounded few result = (
  record {
    accepted = check.ready.accepted;
    counted = counted;
    reports = record {
      grid = c.grid;
      ready = check.ready.ready;
      segments_a = first ∙ check.segments_a;
      segments_b = second ∙ check.segments_b;
      edges = edges;
      tiles = tiles;
      rounded = rounded;
      told = told;
      remade = rw made_anew few;
    };
    polygons = polygons;
    result = result;
    columns = columns;
  },
  refl,
  refl,
)

-- ---- how the call ends
never_memory : (limit : ℕ) (plan : Plan) (a b : Columns) (f : ColumnsRefused) → AreColumnsRefused limit plan a b f → f ≡ Run Memory → ⊥
never_memory limit plan a b f (bad_tile n) e = cc
never_memory limit plan a b f (bad_workers s n) e = cc
never_memory limit plan a b f (bad_a p r) e = cc
never_memory limit plan a b f (bad_b p h r) e = cc
never_memory limit plan a b f (too_many p h k) e = cc
never_memory limit plan a b f (too_many_tiles p h k g o m) e = cc

pub refused_declines : (limit : ℕ) (plan : Plan) (a b : Columns) (f : ColumnsRefused) → AreColumnsRefused limit plan a b f → DeclinesColumns limit plan a b f
refused_declines limit plan a b (A f) r = r
refused_declines limit plan a b (B f) r = r
refused_declines limit plan a b (Run Memory) r = absurd (never_memory limit plan a b (Run Memory) r refl)
refused_declines limit plan a b (Run LayerLong) r = r
refused_declines limit plan a b (Run (Syntax o)) r = r
refused_declines limit plan a b (Run (NumberRange o)) r = r
refused_declines limit plan a b (Run (RingShort o)) r = r
refused_declines limit plan a b (Run (RingOpen o)) r = r
refused_declines limit plan a b (Run (TooManySegments n)) r = r
refused_declines limit plan a b (Run BadTile) r = r
refused_declines limit plan a b (Run BadWorkers) r = r
refused_declines limit plan a b (Run (TooManyTiles n)) r = r
refused_declines limit plan a b (Run (NotNoded e f)) r = r
refused_declines limit plan a b (Run Write) r = r

pub ends : {X : Type 0} (IsMade : ℕ → Plan → X → Type 0) (limits : Limits) (plan : Plan) (a b : Columns) (c : CheckedColumns) (r : Result X NoMemory) (answer : Result X ColumnsRefused)
    → (c.plan ≡ plan) × (c.limits ≡ limits) → IsCheckOf a b c → IfOk r (IsMade c.limits.segments c.plan) → MatchResult answer (λ m. r ≡ Ok m) (λ f. f ≡ Run Memory)
    → MatchResult answer (IsMade limits.segments plan) (DeclinesColumns limits.segments plan a b)
ends {X} IsMade limits plan a b c r (Ok made) same check h is =
    subst (λ (p : Plan). IsMade limits.segments p made) same.0
    (subst (λ (l : Limits). IsMade l.segments c.plan made) same.1 (subst (λ (t : Result X NoMemory). IfOk t (IsMade c.limits.segments c.plan)) is h))
ends IsMade limits plan a b c r (Err f) same check h is = subst (λ (t : ColumnsRefused). DeclinesColumns limits.segments plan a b t) (sym is) (c.grid, ready)
  where
    ready : AreColumnsReady limits.segments plan a b c.grid
    ready = subst (λ (p : Plan). AreColumnsReady limits.segments p a b c.grid) same.0 (subst (λ (l : Limits). AreColumnsReady l.segments c.plan a b c.grid) same.1 check.ready)
