use Rattle.std.proofs.Common.{◌≡◌, ◌∙◌, ℕ, List, ap, inl, inr, length, map, refl}
use Rattle.std.specs.Borrow.{Bor}
use Rattle.layers.specs.Refusals.{text_limit}
use Rattle.layers.specs.declared.faces_limits.FacesLimits.{FacesLimits}
use Rattle.program.specs.Program.{limit_of}
use Rattle.program.proofs.Loading.{all_loaded, as_many_lent}
use Rattle.program.proofs.faces_program.answer.Goals as goal

pub returns-in_default : goal.returns-in_default
returns-in_default g c =
    let longest : c.text_limit-longest.result ≡ text_limit (limit_of c.args.asked.now.segments) = c.text_limit-longest.ensures ∙ ap (λ (l : FacesLimits). text_limit l.segments) c.faces_limits_of.ensures in
    inl (
      refl,
      inr (
        rw (← longest) (all_loaded (g.F.Files.loads c.text_limit-longest.result) c.args.files.now c.load_all.new.files (map (λ n. n.now) c.args.asked.now.layers.items) (map (λ t. t.items) c.in-Ok.texts.items) (rw (← c.deref.ensures.value) c.in-Ok.ensures)),
        c.tell_no_memory.ensures,
      ),
    )

pub perform-requires-clause-few : goal.perform-requires-clause-few
perform-requires-clause-few g c =
    let read : map (λ t. t.now) c.in-Ok-slices_of.layers.items ≡ map (λ t. t.items) c.in-Ok.texts.items =
    c.in-Ok-slices_of.ensures ∙ ap (map (λ t. t.items)) c.deref-2.ensures.value in
    let lent : length c.in-Ok-slices_of.layers.items ≡ length c.deref.result.now =
    as_many_lent (g.F.Files.loads c.text_limit-longest.result) c.args.files.now c.load_all.new.files c.deref.result.now c.in-Ok-slices_of.layers.items (map (λ t. t.items) c.in-Ok.texts.items) c.in-Ok.ensures read in
    rw (c.deref-3.ensures.value, lent, c.deref.ensures.value) (λ lifetimes within. c.requires.few)

pub returns-in-Ok-perform : goal.returns-in-Ok-perform
returns-in-Ok-perform g c =
    let longest : c.text_limit-longest.result ≡ text_limit (limit_of c.args.asked.now.segments) = c.text_limit-longest.ensures ∙ ap (λ (l : FacesLimits). text_limit l.segments) c.faces_limits_of.ensures in
    let lent : map (λ t. t.now) c.deref-3.result.now ≡ map (λ t. t.now) c.in-Ok-slices_of.layers.items =
    ap (λ (l : List (Bor (List ℕ))). map (λ t. t.now) l) c.deref-3.ensures.value in
    let read : map (λ t. t.now) c.deref-3.result.now ≡ map (λ t. t.items) c.in-Ok.texts.items =
    lent ∙ (c.in-Ok-slices_of.ensures ∙ ap (map (λ t. t.items)) c.deref-2.ensures.value) in
    inr (
      map (λ t. t.now) c.deref-3.result.now,
      rw (read, ← c.deref.ensures.value, ← longest) c.in-Ok.ensures,
      (c.perform.result, c.perform.ensures, rw (c.in-Ok-perform.is, c.if-asked.true) c.show_report.ensures),
    )
