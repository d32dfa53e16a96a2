-- From what was made and sent to what the whole run says.
use Rattle.std.proofs.Common.{◌≡◌, ℕ, List, length, refl, subst, sym}
use Rattle.std.specs.Prelude.{Result, Ok, Err, IfOk, MatchResult}
use Rattle.geom.specs.declared.fault.Fault.{Fault}
use Rattle.geom.specs.declared.fault.Fault.TheVariants.{LayerLong, Syntax, NumberRange, RingShort, RingOpen, TooManySegments, BadTile, BadWorkers, TooManyTiles, NotNoded, Memory, Write}
use Rattle.geom.specs.declared.fault.Part.{Part}
use Rattle.geom.specs.declared.fault.Part.TheVariants.{Run}
use Rattle.geom.specs.declared.fault.RunFault.{RunFault}
use Rattle.geom.specs.declared.fault.NoMemory.{NoMemory}
use Rattle.layers.specs.declared.plan.Limits.{Limits}
use Rattle.engine.specs.declared.engine.MadeInParts.{MadeInParts}
use Rattle.layers.specs.declared.plan.Plan.{Plan}
use Rattle.results.specs.declared.operation.Wanted.{Wanted}
use Rattle.results.specs.declared.operation.Wanted.TheVariants.{Apply, Edges}
use Rattle.geom.specs.declared.edge.Counted.{Counted}
use Rattle.results.specs.declared.text.Report.{Report}
use Rattle.results.specs.Sinks.{SinkState}
use Rattle.grid.specs.Tiles.{Tiling}
use Rattle.linking.specs.declared.rounded.TileNumbers.{TileNumbers}
use Rattle.engine.specs.Rounds.{AreRoundedOver, IsRemade, TellsTiles}
use Rattle.engine.proofs.Known.{reported}
use Rattle.layers.specs.Refusals.{IsCheckedWithin, IsRefusedAtWithin, MayRunWithin, bad_a, bad_b, bad_tile, bad_workers, text_limit, too_many, too_many_tiles}
use Rattle.engine.specs.Runs.{DeclinesWithin, Delivers, ReportsWithin, RunsWithin, StopsWithin}
use Rattle.wkt.specs.Refusals.{IsRefusedWithin}
use Rattle.results.specs.Results.{IsWantedText}
use Rattle.engine.specs.Results.{IsWrittenWithin}

-- ---- what was made
pub written : {M : Type 0} (limit : ℕ) (wanted : Wanted) (plan : Plan) (a b : List ℕ) (counted : List Counted) (text : List ℕ) (report : Report M)
    → IsWantedText wanted counted text → ReportsWithin limit plan a b counted report → IsWrittenWithin limit wanted plan a b text report
written limit Edges plan a b counted text report h reports = record { counted = counted; text_is = h; reports = reports }
written limit (Apply op) plan a b counted text report h reports = record { counted = counted; result = h; reports = reports }

pub reports_on : {M : Type 0} (limit : ℕ) (plan : Plan) (a b : List ℕ) (m n : ℕ) (g : Tiling) (counted : List Counted) (tiles : List TileNumbers) (remade : ℕ)
    → ∥ IsCheckedWithin limit plan a b m n g ∥₁ → AreRoundedOver a b g counted tiles → IsRemade remade → (r : Result (Report M) NoMemory)
    → IfOk r (λ t. t.segments_a ≡ m) → IfOk r (λ t. t.segments_b ≡ n) → IfOk r (λ t. t.edges ≡ length counted) → IfOk r (λ t. TellsTiles tiles t.hot t.records t.tiles.items) → IfOk r (λ t. t.remade ≡ remade)
    → IfOk r (ReportsWithin limit plan a b counted)
reports_on limit plan a b m n g counted tiles remade known rounded is (Ok t) in_a in_b edges told made = reported limit plan a b m n g counted tiles t known rounded in_a in_b edges told (rw made is)
reports_on limit plan a b m n g counted tiles remade known rounded is (Err f) in_a in_b edges told made = tt

-- of the layers, the plan and the limits that were checked
module _ {X : Type 0} (IsMade : Limits → Plan → List ℕ → List ℕ → X → Type 0) where
  pub checked_made : (limits checked : Limits) (plan other : Plan) (a b a' b' : List ℕ) (made : X)
      → (other ≡ plan) × (checked ≡ limits) × (a' ≡ a) × (b' ≡ b) → IsMade checked other a' b' made → IsMade limits plan a b made
  checked_made limits checked plan other a b a' b' made e h =
      subst (λ (p : Plan). IsMade limits p a b made) e.0 (subst (λ (l : Limits). IsMade l other a b made) e.1
      (subst (λ (t : List ℕ). IsMade checked other t b made) e.2 (subst (λ (t : List ℕ). IsMade checked other a' t made) e.3 h)))

  pub ends : (limits checked : Limits) (plan other : Plan) (a b a' b' : List ℕ) (r : Result X NoMemory) (answer : Result X RunFault)
      → (other ≡ plan) × (checked ≡ limits) × (a' ≡ a) × (b' ≡ b) → MayRunWithin limits.segments plan a b → IfOk r (IsMade checked other a' b')
      → MatchResult answer (λ m. r ≡ Ok m) (λ f. (f.at ≡ Run) × (f.fault ≡ Memory))
      → MatchResult answer (IsMade limits plan a b) (λ f. DeclinesWithin limits.segments plan a b f.at f.fault)
  ends limits checked plan other a b a' b' r (Ok made) e may h is =
      checked_made limits checked plan other a b a' b' made e (subst (λ (t : Result X NoMemory). IfOk t (IsMade checked other a' b')) is h)
  ends limits checked plan other a b a' b' r (Err f) e may h is = subst (λ (fault : Fault). DeclinesWithin limits.segments plan a b f.at fault) (sym is.1) (is.0, may)

-- ---- how a call without a sink ends
pub memory_declines : (limit : ℕ) (plan : Plan) (a b : List ℕ) (part : Part) (f : Fault) → MayRunWithin limit plan a b → (part ≡ Run) × (f ≡ Memory) → DeclinesWithin limit plan a b part f
memory_declines limit plan a b part f may is = subst (λ (fault : Fault). DeclinesWithin limit plan a b part fault) (sym is.1) (is.0, may)

never_memory : (limit : ℕ) (plan : Plan) (a b : List ℕ) (part : Part) (f : Fault) → IsRefusedAtWithin limit plan a b part f → f ≡ Memory → ⊥
never_memory limit plan a b part f (bad_tile n) e = cc
never_memory limit plan a b part f (bad_workers s n) e = cc
never_memory limit plan a b part f (bad_a p r) e = subst (λ (t : Fault). IsRefusedWithin (text_limit limit) a t) e r
never_memory limit plan a b part f (bad_b p x h r) e = subst (λ (t : Fault). IsRefusedWithin (text_limit limit) b t) e r
never_memory limit plan a b part f (too_many p x y h k l) e = cc
never_memory limit plan a b part f (too_many_tiles p x y h k l g i m) e = cc

never_write : (limit : ℕ) (plan : Plan) (a b : List ℕ) (part : Part) (f : Fault) → IsRefusedAtWithin limit plan a b part f → f ≡ Write → ⊥
never_write limit plan a b part f (bad_tile n) e = cc
never_write limit plan a b part f (bad_workers s n) e = cc
never_write limit plan a b part f (bad_a p r) e = subst (λ (t : Fault). IsRefusedWithin (text_limit limit) a t) e r
never_write limit plan a b part f (bad_b p x h r) e = subst (λ (t : Fault). IsRefusedWithin (text_limit limit) b t) e r
never_write limit plan a b part f (too_many p x y h k l) e = cc
never_write limit plan a b part f (too_many_tiles p x y h k l g i m) e = cc

pub refused_declines : (limit : ℕ) (plan : Plan) (a b : List ℕ) (part : Part) (f : Fault) → IsRefusedAtWithin limit plan a b part f → DeclinesWithin limit plan a b part f
refused_declines limit plan a b part Memory r = absurd (never_memory limit plan a b part Memory r refl)
refused_declines limit plan a b part LayerLong r = r
refused_declines limit plan a b part (Syntax o) r = r
refused_declines limit plan a b part (NumberRange o) r = r
refused_declines limit plan a b part (RingShort o) r = r
refused_declines limit plan a b part (RingOpen o) r = r
refused_declines limit plan a b part (TooManySegments n) r = r
refused_declines limit plan a b part BadTile r = r
refused_declines limit plan a b part BadWorkers r = r
refused_declines limit plan a b part (TooManyTiles n) r = r
refused_declines limit plan a b part (NotNoded e f) r = r
refused_declines limit plan a b part Write r = r

-- ---- how a call with a sink ends
pub stops : {S R : Type 0} (limit : ℕ) (state : S → SinkState) (old : S) (plan : Plan) (a b : List ℕ) (IsAnswer : List ℕ → R → Type 0) (part : Part) (f : Fault)
    → DeclinesWithin limit plan a b part f → StopsWithin limit state old old plan a b IsAnswer part f
stops limit state old plan a b IsAnswer part Write r = absurd (never_write limit plan a b part Write r refl)
stops limit state old plan a b IsAnswer part Memory (at, may) = (at, may, refl)
stops limit state old plan a b IsAnswer part LayerLong r = (r, refl)
stops limit state old plan a b IsAnswer part (Syntax o) r = (r, refl)
stops limit state old plan a b IsAnswer part (NumberRange o) r = (r, refl)
stops limit state old plan a b IsAnswer part (RingShort o) r = (r, refl)
stops limit state old plan a b IsAnswer part (RingOpen o) r = (r, refl)
stops limit state old plan a b IsAnswer part (TooManySegments n) r = (r, refl)
stops limit state old plan a b IsAnswer part BadTile r = (r, refl)
stops limit state old plan a b IsAnswer part BadWorkers r = (r, refl)
stops limit state old plan a b IsAnswer part (TooManyTiles n) r = (r, refl)
stops limit state old plan a b IsAnswer part (NotNoded e f) r = (r, refl)

pub may_run : {M : Type 0} (limit : ℕ) (wanted : Wanted) (plan : Plan) (a b : List ℕ) (text : List ℕ) (report : Report M) → IsWrittenWithin limit wanted plan a b text report → MayRunWithin limit plan a b
may_run limit Edges plan a b text report h = (h.reports.rings_a, h.reports.rings_b, h.reports.grid, h.reports.ready)
may_run limit (Apply op) plan a b text report h = (h.reports.rings_a, h.reports.rings_b, h.reports.grid, h.reports.ready)

pub sent_runs : {S M : Type 0} (limit : ℕ) (state : S → SinkState) (old new : S) (plan : Plan) (a b : List ℕ) (IsAnswer : List ℕ → Report M → Type 0) (made : MadeInParts M)
    → MayRunWithin limit plan a b → IsAnswer made.text made.report → (r : Result (Report M) RunFault) → Delivers (state old) (state new) made r → RunsWithin limit state old new plan a b IsAnswer r
sent_runs limit state old new plan a b IsAnswer made may is (Ok told) h =
    record { may = may; text = made.text; is_answer = subst (λ (m : Report _). IsAnswer made.text m) (sym h.0) is; sent = h.1 }
sent_runs limit state old new plan a b IsAnswer made may is (Err f) h =
    subst (λ (fault : Fault). StopsWithin limit state old new plan a b IsAnswer f.at fault) (sym h.1)
    (h.0, record { may = may; text = made.text; report = made.report; is_answer = is; sent = h.2 })
