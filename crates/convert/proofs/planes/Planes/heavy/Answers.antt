use native.Mathlib.Omega.{arith}
use mathlib.Core.Path.{◌∙◌}
use Prim.Native.Nat.{◌+◌, ◌<◌}
use borrow.Enum.Refused.{opened}
use Rattle.convert.proofs.Packed.Products.{each_of_one, first}
use Rattle.convert.proofs.Packed.Tests.{light, tests_alone, tests_ccx, tests_ccz, a_qubit, three_qubits, three_qubits_z, z_heavy, ccx_heavy, ccz_heavy}
use Rattle.convert.proofs.GateKinds.Arms.{not_tested}
use Rattle.convert.proofs.planes.Planes.heavy.Goals as goal

pub overflow_add-a : goal.overflow_add-a
overflow_add-a c = let q = a_qubit _ _ _ _ _ (tests_alone _ c.in-T.is) c.requires.all_proper in omega (arith, q, c.args.self.now.few)

pub overflow_add-a-in-T : goal.overflow_add-a-in-T
overflow_add-a-in-T c = let q = a_qubit _ _ _ _ _ (tests_alone _ c.in-T.is) c.requires.all_proper in omega (arith, q, c.args.self.now.few)

pub exceeds-requires : goal.exceeds-requires
exceeds-requires c = let q = a_qubit _ _ _ _ _ (tests_alone _ c.in-T.is) c.requires.all_proper in each_of_one (λ j. j < c.args.self.now.qubits + c.args.self.now.qubits) (c.args.gate.a + c.args.gate.a + 1) (omega (arith, q))

pub overflow_add-a-in-Ccx : goal.overflow_add-a-in-Ccx
overflow_add-a-in-Ccx c = let q = three_qubits _ _ _ _ _ (tests_ccx _ c.in-Ccx.is) c.requires.all_proper in omega (arith, q, c.args.self.now.few)

pub overflow_add-a-in-Ccx-2 : goal.overflow_add-a-in-Ccx-2
overflow_add-a-in-Ccx-2 c = let q = three_qubits _ _ _ _ _ (tests_ccx _ c.in-Ccx.is) c.requires.all_proper in omega (arith, q, c.args.self.now.few)

pub overflow_add-b : goal.overflow_add-b
overflow_add-b c = let q = three_qubits _ _ _ _ _ (tests_ccx _ c.in-Ccx.is) c.requires.all_proper in omega (arith, q, c.args.self.now.few)

pub overflow_add-b-in-Ccx : goal.overflow_add-b-in-Ccx
overflow_add-b-in-Ccx c = let q = three_qubits _ _ _ _ _ (tests_ccx _ c.in-Ccx.is) c.requires.all_proper in omega (arith, q, c.args.self.now.few)

pub overflow_add-d : goal.overflow_add-d
overflow_add-d c = let q = three_qubits _ _ _ _ _ (tests_ccx _ c.in-Ccx.is) c.requires.all_proper in omega (arith, q, c.args.self.now.few)

pub seven-requires : goal.seven-requires
seven-requires c = let q = three_qubits _ _ _ _ _ (tests_ccx _ c.in-Ccx.is) c.requires.all_proper in (omega (arith, q.0), omega (arith, q.1), omega (arith, q.2))

pub overflow_add-a-in-Ccz : goal.overflow_add-a-in-Ccz
overflow_add-a-in-Ccz c = let q = three_qubits_z _ _ _ _ _ (tests_ccz _ c.in-Ccz.is) c.requires.all_proper in omega (arith, q, c.args.self.now.few)

pub overflow_add-a-in-Ccz-2 : goal.overflow_add-a-in-Ccz-2
overflow_add-a-in-Ccz-2 c = let q = three_qubits_z _ _ _ _ _ (tests_ccz _ c.in-Ccz.is) c.requires.all_proper in omega (arith, q, c.args.self.now.few)

pub overflow_add-b-in-Ccz : goal.overflow_add-b-in-Ccz
overflow_add-b-in-Ccz c = let q = three_qubits_z _ _ _ _ _ (tests_ccz _ c.in-Ccz.is) c.requires.all_proper in omega (arith, q, c.args.self.now.few)

pub overflow_add-b-in-Ccz-2 : goal.overflow_add-b-in-Ccz-2
overflow_add-b-in-Ccz-2 c = let q = three_qubits_z _ _ _ _ _ (tests_ccz _ c.in-Ccz.is) c.requires.all_proper in omega (arith, q, c.args.self.now.few)

pub overflow_add-d-in-Ccz : goal.overflow_add-d-in-Ccz
overflow_add-d-in-Ccz c = let q = three_qubits_z _ _ _ _ _ (tests_ccz _ c.in-Ccz.is) c.requires.all_proper in omega (arith, q, c.args.self.now.few)

pub overflow_add-d-in-Ccz-2 : goal.overflow_add-d-in-Ccz-2
overflow_add-d-in-Ccz-2 c = let q = three_qubits_z _ _ _ _ _ (tests_ccz _ c.in-Ccz.is) c.requires.all_proper in omega (arith, q, c.args.self.now.few)

pub seven-requires-in-Ccz : goal.seven-requires-in-Ccz
seven-requires-in-Ccz c = let q = three_qubits_z _ _ _ _ _ (tests_ccz _ c.in-Ccz.is) c.requires.all_proper in (omega (arith, q.0), omega (arith, q.1), omega (arith, q.2))

pub returns-in-T : goal.returns-in-T
returns-in-T c =
    let a = c.args in
    let p = a.self.now in
    λ t rest w e. rw (c.exceeds.ensures, first p.words.now p.width (a.gate.a + a.gate.a + 1) (a.gate.a + a.gate.a + 1) (a.gate.a + a.gate.a + 1)) (z_heavy _ _ _ _ _ a.gate.b a.gate.d _ t rest p.parts (tests_alone _ c.in-T.is) c.requires.all_proper w e)

pub returns-in-Ccx : goal.returns-in-Ccx
returns-in-Ccx c = λ t rest w e. c.seven.ensures ∙ ccx_heavy _ _ _ _ _ _ _ _ t rest c.args.self.now.parts (tests_ccx _ c.in-Ccx.is) c.requires.all_proper w e

pub returns-in-Ccz : goal.returns-in-Ccz
returns-in-Ccz c = λ t rest w e. c.seven-in-Ccz.ensures ∙ ccz_heavy _ _ _ _ _ _ _ _ t rest c.args.self.now.parts (tests_ccz _ c.in-Ccz.is) c.requires.all_proper w e

pub returns-in_default : goal.returns-in_default
returns-in_default c = λ t rest w e. light _ _ t _ _ _ _ (not_tested _ (opened c.in_default.in_default-own.keys4))
