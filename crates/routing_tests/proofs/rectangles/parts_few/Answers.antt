use Rattle.routing_tests.proofs.rectangles.parts_few.Goals as goal

pub are_few_rectangles-requires : goal.are_few_rectangles-requires
are_few_rectangles-requires c = rw (c.deref-3.ensures.value, c.deref-4.ensures.value) (rw c.deref-2.ensures.value at c.in_ok-numbers.ensures.below)
