-- `record` meets its contract: one arm a kind, the gates of some in turn, and one arm for the kinds that have no frame gate.
use Rattle.convert.specs.Records.{lower_as}
use Rattle.convert.specs.Code.Raw.{record_gates}
use Rattle.convert.proofs.GateKinds.Arms.{no_gates}
use Rattle.convert.proofs.lowered.FrameGates.record.Goals as goal

pub h-requires : goal.h-requires
unfolding record_gates lower_as
h-requires g c = rw c.in-H.is at c.requires

pub x-requires : goal.x-requires
unfolding record_gates lower_as
x-requires g c = rw c.in-X.is at c.requires

pub z-requires : goal.z-requires
unfolding record_gates lower_as
z-requires g c = rw c.in-Z.is at c.requires

pub s-requires : goal.s-requires
unfolding record_gates lower_as
s-requires g c = rw c.in-S.is at c.requires

pub sdg-requires : goal.sdg-requires
unfolding record_gates lower_as
sdg-requires g c = rw c.in-Sdg.is at c.requires

pub cnot-requires : goal.cnot-requires
unfolding record_gates lower_as
cnot-requires g c = rw c.in-Cnot.is at c.requires

pub cz-requires : goal.cz-requires
unfolding record_gates lower_as
cz-requires g c = rw c.in-Cz.is at c.requires

pub z-requires-in-Y : goal.z-requires-in-Y
unfolding record_gates lower_as
z-requires-in-Y g c = g.met.Self.FrameGates.head _ _ _ (rw c.in-Y.is at c.requires)

pub x-requires-in-Y : goal.x-requires-in-Y
unfolding record_gates lower_as
x-requires-in-Y g c = g.met.Self.FrameGates.tail _ _ _ _ (rw c.in-Y.is at c.requires) c.z-in-Y.ensures

pub h-requires-in-Sx : goal.h-requires-in-Sx
unfolding record_gates lower_as
h-requires-in-Sx g c = g.met.Self.FrameGates.head _ _ _ (rw c.in-Sx.is at c.requires)

pub s-requires-in-Sx : goal.s-requires-in-Sx
unfolding record_gates lower_as
s-requires-in-Sx g c = g.met.Self.FrameGates.head _ _ _ (g.met.Self.FrameGates.tail _ _ _ _ (rw c.in-Sx.is at c.requires) c.h-in-Sx.ensures)

pub h-requires-in-Sx-2 : goal.h-requires-in-Sx-2
unfolding record_gates lower_as
h-requires-in-Sx-2 g c = g.met.Self.FrameGates.tail _ _ _ _ (g.met.Self.FrameGates.tail _ _ _ _ (rw c.in-Sx.is at c.requires) c.h-in-Sx.ensures) c.s-in-Sx.ensures

pub cnot-requires-in-Swap : goal.cnot-requires-in-Swap
unfolding record_gates lower_as
cnot-requires-in-Swap g c = g.met.Self.FrameGates.head _ _ _ (rw c.in-Swap.is at c.requires)

pub cnot-requires-in-Swap-2 : goal.cnot-requires-in-Swap-2
unfolding record_gates lower_as
cnot-requires-in-Swap-2 g c = g.met.Self.FrameGates.head _ _ _ (g.met.Self.FrameGates.tail _ _ _ _ (rw c.in-Swap.is at c.requires) c.cnot-in-Swap.ensures)

pub cnot-requires-in-Swap-3 : goal.cnot-requires-in-Swap-3
unfolding record_gates lower_as
cnot-requires-in-Swap-3 g c = g.met.Self.FrameGates.tail _ _ _ _ (g.met.Self.FrameGates.tail _ _ _ _ (rw c.in-Swap.is at c.requires) c.cnot-in-Swap.ensures) c.cnot-in-Swap-2.ensures

pub sdg-requires-in-Cy : goal.sdg-requires-in-Cy
unfolding record_gates lower_as
sdg-requires-in-Cy g c = g.met.Self.FrameGates.head _ _ _ (rw c.in-Cy.is at c.requires)

pub cnot-requires-in-Cy : goal.cnot-requires-in-Cy
unfolding record_gates lower_as
cnot-requires-in-Cy g c = g.met.Self.FrameGates.head _ _ _ (g.met.Self.FrameGates.tail _ _ _ _ (rw c.in-Cy.is at c.requires) c.sdg-in-Cy.ensures)

pub s-requires-in-Cy : goal.s-requires-in-Cy
unfolding record_gates lower_as
s-requires-in-Cy g c = g.met.Self.FrameGates.tail _ _ _ _ (g.met.Self.FrameGates.tail _ _ _ _ (rw c.in-Cy.is at c.requires) c.sdg-in-Cy.ensures) c.cnot-in-Cy.ensures

pub returns-in-H : goal.returns-in-H
unfolding record_gates lower_as
returns-in-H g c = rw c.in-H.is c.h.ensures

pub returns-in-X : goal.returns-in-X
unfolding record_gates lower_as
returns-in-X g c = rw c.in-X.is c.x.ensures

pub returns-in-Z : goal.returns-in-Z
unfolding record_gates lower_as
returns-in-Z g c = rw c.in-Z.is c.z.ensures

pub returns-in-S : goal.returns-in-S
unfolding record_gates lower_as
returns-in-S g c = rw c.in-S.is c.s.ensures

pub returns-in-Sdg : goal.returns-in-Sdg
unfolding record_gates lower_as
returns-in-Sdg g c = rw c.in-Sdg.is c.sdg.ensures

pub returns-in-Cnot : goal.returns-in-Cnot
unfolding record_gates lower_as
returns-in-Cnot g c = rw c.in-Cnot.is c.cnot.ensures

pub returns-in-Cz : goal.returns-in-Cz
unfolding record_gates lower_as
returns-in-Cz g c = rw c.in-Cz.is c.cz.ensures

pub returns-in-Y : goal.returns-in-Y
unfolding record_gates lower_as
returns-in-Y g c = rw c.in-Y.is (g.met.Self.FrameGates.more _ _ _ _ _ c.z-in-Y.ensures c.x-in-Y.ensures)

pub returns-in-Sx : goal.returns-in-Sx
unfolding record_gates lower_as
returns-in-Sx g c = rw c.in-Sx.is (g.met.Self.FrameGates.more _ _ _ _ _ c.h-in-Sx.ensures (g.met.Self.FrameGates.more _ _ _ _ _ c.s-in-Sx.ensures c.h-in-Sx-2.ensures))

pub returns-in-Swap : goal.returns-in-Swap
unfolding record_gates lower_as
returns-in-Swap g c = rw c.in-Swap.is (g.met.Self.FrameGates.more _ _ _ _ _ c.cnot-in-Swap.ensures (g.met.Self.FrameGates.more _ _ _ _ _ c.cnot-in-Swap-2.ensures c.cnot-in-Swap-3.ensures))

pub returns-in-Cy : goal.returns-in-Cy
unfolding record_gates lower_as
returns-in-Cy g c = rw c.in-Cy.is (g.met.Self.FrameGates.more _ _ _ _ _ c.sdg-in-Cy.ensures (g.met.Self.FrameGates.more _ _ _ _ _ c.cnot-in-Cy.ensures c.s-in-Cy.ensures))

pub returns-in_default : goal.returns-in_default
returns-in_default g c =
    let none = no_gates c.args.kind c.args.a c.args.b c.in_default.in_default-own.keys12 in
    rw none (g.met.Self.FrameGates.none _ (rw none at c.requires))
