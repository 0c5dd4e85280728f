-- `Walk::step_at` meets its contract: a product, a factor, or nothing.
use Prim.Native.Nat.{◌/◌}
use native.Mathlib.Omega.{arith}
use Rattle.arena.proofs.Made.{handed_on}
use Rattle.arena.proofs.Steps.Scratch.{links_value, node_product, node_single, node_blank}
use Rattle.arena.proofs.Steps.Path.{nodes_room, words_room, low, making, single_step, blank_step, went_up, went-no}
use Rattle.arena.proofs.materialize.Walk.step_at.Goals as goal

pub first_word-a-requires : goal.first_word-a-requires
first_word-a-requires c = omega (arith, nodes_room c.requires)

pub second_word-b-requires : goal.second_word-b-requires
second_word-b-requires c = nodes_room c.requires

pub product_step-requires : goal.product_step-requires
product_step-requires c =
    let if1 = c.if-kind-eq2 in
    let second_word = c.second_word-b in
    let first_word = c.first_word-a in
    let args = c.args in
    let pre = c.requires in
    record {
      words = args.self.now.nodes.now;
      top = pre;
      is_product = node_product pre.at.n args.self.now.nodes.now args.i (pre.at.well args.i
          (low pre)) first_word.ensures second_word.ensures if1.true;
    }

pub returns-then-kind-eq2-clause-says : goal.returns-then-kind-eq2-clause-says
returns-then-kind-eq2-clause-says c =
    let product-step = c.product_step in
    let if1 = c.if-kind-eq2 in
    let second_word = c.second_word-b in
    let first_word = c.first_word-a in
    let args = c.args in
    λ g. product-step.ensures.says (record {
      words = args.self.now.nodes.now;
      top = g;
      is_product = node_product g.at.n args.self.now.nodes.now args.i
          (g.at.well args.i (low g)) first_word.ensures second_word.ensures if1.true;
    })

pub single_at-requires-clause-making : goal.single_at-requires-clause-making
single_at-requires-clause-making c =
    let if2 = c.if-kind-eq1 in
    let second_word = c.second_word-b in
    let first_word = c.first_word-a in
    let pre = c.requires in
    let args = c.args in
    let e = node_single pre.at.n args.self.now.nodes.now args.i (pre.at.well args.i (low pre)) first_word.ensures second_word.ensures
    if2.true in making pre

pub single_at-requires-clause-le_letter : goal.single_at-requires-clause-le_letter
single_at-requires-clause-le_letter c =
    let if2 = c.if-kind-eq1 in
    let second_word = c.second_word-b in
    let first_word = c.first_word-a in
    let pre = c.requires in
    let args = c.args in
    let e = node_single pre.at.n args.self.now.nodes.now args.i (pre.at.well args.i (low pre)) first_word.ensures second_word.ensures
    if2.true in (e.1, e.2)

pub link_of-requires : goal.link_of-requires
link_of-requires c = omega (arith, words_room c.requires, c.single_at.ensures.lent)

pub returns-in_err-single_at-clause-says : goal.returns-in_err-single_at-clause-says
returns-in_err-single_at-clause-says c =
    λ g. rw (handed_on c.from_residual.ensures) (went-no _ _ c.in_err-single_at.was
    (single_step g c.second_word-b.result (c.first_word-a.result / 4) _ (node_single g.at.n c.args.self.now.nodes.now c.args.i (g.at.well c.args.i (low g)) c.first_word-a.ensures c.second_word-b.ensures
    c.if-kind-eq1.true).0 c.single_at.ensures.links_kept (c.single_at.ensures.says (making g))))

pub returns-then-kind-eq1-clause-says : goal.returns-then-kind-eq1-clause-says
returns-then-kind-eq1-clause-says c =
    λ g. went_up _ c.link_of.ensures c.in_ok-single_at.was
    (single_step g c.second_word-b.result (c.first_word-a.result / 4) _ (node_single g.at.n c.args.self.now.nodes.now c.args.i (g.at.well c.args.i (low g)) c.first_word-a.ensures c.second_word-b.ensures
    c.if-kind-eq1.true).0 c.single_at.ensures.links_kept (c.single_at.ensures.says (making g)))

pub set_value-requires : goal.set_value-requires
set_value-requires c = (omega arith, omega arith, omega arith, omega (arith, words_room c.requires))

pub link_of-requires-2 : goal.link_of-requires-2
link_of-requires-2 c = omega (arith, words_room c.requires, c.set_value.auto.s)

pub returns-clause-says : goal.returns-clause-says
returns-clause-says c =
    λ g. rw c.link_of-2.ensures (blank_step g (node_blank g.at.n c.args.self.now.nodes.now c.args.i (g.at.well c.args.i (low g)) c.first_word-a.ensures
    c.second_word-b.ensures c.if-kind-eq2.false c.if-kind-eq1.false) (links_value _ _ c.set_value.ensures) c.set_value.ensures)
