use Rattle.std.proofs.Common.{◌+◌, inl, inr, ℕ, ◌<◌, ◌≤◌, ◌≡◌, arith}
use Rattle.std.proofs.lemmas.Bool.{cases_lt}
use Rattle.polygonize.proofs.ClosesOnce.{closes_of}
use Rattle.polygonize.proofs.Holes.{hole_here, no_hole, turns_here, turned_there}
use Rattle.polygonize.proofs.hole.is_hole.Goals as goal

pub returns-then-turns_right : goal.returns-then-turns_right
returns-then-turns_right c = (
  λ e. hole_here c.args.edges.list.now (closes_of c.args.edges.closes).are_directed c.args.ring.now c.requires.vertices c.requires.least c.loop-i.i c.loop-i-test.true
      (turns_here c.args.edges.list.now c.args.ring.now c.loop-i.i c.following-at.result c.following-after.result c.following-at.ensures.value c.following-after.ensures.value c.if-ring-at.true c.if-turns_right.ensures),
  λ h. cc,
)

last_one : {m i : ℕ} → m < i + 1 → i ≤ m → m ≡ i
last_one h k = omega arith

pub loop-i-preserved : goal.loop-i-preserved
loop-i-preserved c = λ m h t. elim (cases_lt m c.loop-i.i) [
  | inl l ↦ c.loop-i.invariant m l t
  | inr l ↦ (let n = turned_there c.args.edges.list.now c.args.ring.now c.loop-i.i c.following-at.result c.following-after.result m c.following-at.ensures.value c.following-after.ensures.value (last_one h l) t in elim c.else-ring-at.branch [
    | goal.else-ring-at-via-then-ring-at+else-turns_right w ↦ n.1 w.if-turns_right.ensures
    | goal.else-ring-at-via-else-ring-at w ↦ w.if-ring-at.false n.0
  ])
]

pub returns : goal.returns
returns c = (λ e. absurd (cc), λ h. absurd (no_hole c.args.edges.list.now (closes_of c.args.edges.closes).are_directed c.args.ring.now c.requires.vertices c.requires.least (λ m k. c.loop-i.invariant m (omega arith)) h))
