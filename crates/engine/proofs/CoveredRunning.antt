-- How a call for an operation on layers that are read as covered ends, from what was made and sent.
use Rattle.std.proofs.Common.{◌≡◌, ℕ, List, [], ◌∷◌, refl, subst, sym}
use Rattle.std.specs.Prelude.{◌≢◌, Result, Ok, Err, IfOk, MatchResult}
use Rattle.std.proofs.lemmas.Result.{IfOk-at_ok}
use Rattle.geom.specs.declared.fault.Fault.{Fault}
use Rattle.geom.specs.declared.fault.NoMemory.{NoMemory}
use Rattle.geom.specs.declared.fault.Fault.TheVariants.{LayerLong, Syntax, NumberRange, RingShort, RingOpen, TooManySegments, BadTile, BadWorkers, TooManyTiles, NotNoded, Memory, Write}
use Rattle.geom.specs.declared.op.Op.{Op}
use Rattle.engine.specs.declared.engine.MadeInParts.{MadeInParts}
use Rattle.layers.specs.declared.plan.Plan.{Plan}
use Rattle.layers.specs.declared.faces_fault.FacesFault.{FacesFault}
use Rattle.layers.specs.declared.faces_fault.FacesPart.{FacesPart}
use Rattle.layers.specs.declared.faces_fault.FacesPart.TheVariants.{Run}
use Rattle.layers.specs.declared.faces_fault.FacesRefusal.{FacesRefusal}
use Rattle.layers.specs.declared.faces_fault.FacesRefusal.TheVariants.{Usual, TooManyIds}
use Rattle.layers.specs.declared.faces_limits.FacesLimits.{FacesLimits}
use Rattle.results.specs.declared.text.Report.{Report}
use Rattle.engine.specs.CoveredRuns.{DeclinesCovered, DeliversCovered, IsCoveredWritten, RunsCovered, StopsCovered, covered_limits}
use Rattle.layers.specs.FacesRefusals.{IsFacesRefusedAt, bad_layer, bad_tile, bad_workers, too_many, too_many_ids, too_many_tiles}
use Rattle.layers.specs.FeatureLayers.{MayRound}
use Rattle.layers.specs.Refusals.{text_limit}
use Rattle.results.specs.Sinks.{SinkState}
use Rattle.engine.proofs.FacesRunning.{memory_declines}
use Rattle.wkt.specs.Refusals.{IsRefusedWithin}

-- a sink that fails is nothing that an input is refused for
never_write : (limits : FacesLimits) (plan : Plan) (texts : List (List ℕ)) (part : FacesPart) (f : FacesRefusal) → IsFacesRefusedAt limits plan texts part f → f ≢ Usual Write
never_write limits plan texts part f (bad_tile n) e = cc
never_write limits plan texts part f (bad_workers a n) e = cc
never_write limits plan texts part f (bad_layer {fault = h} p b) e = own (text_limit limits.segments) b.text (subst (λ (x : Fault). IsRefusedWithin (text_limit limits.segments) b.text x) (let k : h ≡ Write = cc in k) b.refused)
  where
    own : (limit : ℕ) (text : List ℕ) → IsRefusedWithin limit text Write → ⊥
    own limit text r = r
never_write limits plan texts part f (too_many p layers h k) e = cc
never_write limits plan texts part f (too_many_tiles p layers h k grid o m) e = cc
never_write limits plan texts part f (too_many_ids layers grid r h m) e = cc

module _ (segments : ℕ) (op : Op) (plan : Plan) (a b : List ℕ) where
  pub stops : {S : Type 0} (M : Type 0) (state : S → SinkState) (old : S) (part : FacesPart) (f : FacesRefusal) → DeclinesCovered segments plan a b part f → StopsCovered M segments state old old op plan a b part f
  stops M state old part (Usual Memory) r = (r, refl)
  stops M state old part (Usual LayerLong) r = (r, refl)
  stops M state old part (Usual (Syntax o)) r = (r, refl)
  stops M state old part (Usual (NumberRange o)) r = (r, refl)
  stops M state old part (Usual (RingShort o)) r = (r, refl)
  stops M state old part (Usual (RingOpen o)) r = (r, refl)
  stops M state old part (Usual (TooManySegments n)) r = (r, refl)
  stops M state old part (Usual BadTile) r = (r, refl)
  stops M state old part (Usual BadWorkers) r = (r, refl)
  stops M state old part (Usual (TooManyTiles n)) r = (r, refl)
  stops M state old part (Usual (NotNoded e f)) r = (r, refl)
  stops M state old part (Usual Write) r = absurd (never_write (covered_limits segments) plan (a ∷ b ∷ []) part (Usual Write) r refl)
  stops M state old part (TooManyIds ids) r = (r, refl)

  pub sent_runs : {S M : Type 0} (state : S → SinkState) (old new : S) (made : MadeInParts M) → IsCoveredWritten segments op plan a b made.text made.report
      → (r : Result (Report M) FacesFault) → DeliversCovered (state old) (state new) made r → RunsCovered segments state old new op plan a b r
  sent_runs state old new made is (Ok told) h =
      record { text = made.text; written = subst (λ (m : Report _). IsCoveredWritten segments op plan a b made.text m) (sym h.0) is; sent = h.1 }
  sent_runs {M = M} state old new made is (Err f) h =
      subst (λ (x : FacesRefusal). StopsCovered M segments state old new op plan a b f.at x) (sym h.1)
      (h.0, record { text = made.text; report = made.report; written = is; sent = h.2 })

  -- ---- what was checked is what was given, and what isn't made wants memory
  pub ends : {N M : Type 0} (text_in : N → List ℕ) (report_in : N → Report M) (checked : FacesLimits) (other : Plan) (texts : List (List ℕ)) → checked ≡ covered_limits segments → other ≡ plan → texts ≡ a ∷ b ∷ []
      → MayRound segments plan (a ∷ b ∷ []) → (made : Result N NoMemory) → ((s t : List ℕ) → texts ≡ s ∷ t ∷ [] → IfOk made (λ m. IsCoveredWritten checked.segments op other s t (text_in m) (report_in m)))
      → (r : Result N FacesFault) → MatchResult r (λ m. made ≡ Ok m) (λ f. (f.at ≡ Run) × (f.refusal ≡ Usual Memory))
      → MatchResult r (λ m. IsCoveredWritten segments op plan a b (text_in m) (report_in m)) (λ f. DeclinesCovered segments plan a b f.at f.refusal)
  ends text_in report_in checked other texts l p t may made f (Ok m) h =
      subst (λ (x : Plan). IsCoveredWritten segments op x a b (text_in m) (report_in m)) p
      (subst (λ (x : FacesLimits). IsCoveredWritten x.segments op other a b (text_in m) (report_in m)) l
      (IfOk-at_ok (λ n. IsCoveredWritten checked.segments op other a b (text_in n) (report_in n)) h (f a b t)))
  ends text_in report_in checked other texts l p t may made f (Err e) h = memory_declines (covered_limits segments) plan (a ∷ b ∷ []) e.at e.refusal may h
