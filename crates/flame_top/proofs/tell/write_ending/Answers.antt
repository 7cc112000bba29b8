use Rattle.flame_top.proofs.tell.write_ending.Goals as goal

pub returns-in-ReadFault-clause-tells : goal.returns-in-ReadFault-clause-tells
returns-in-ReadFault-clause-tells g c = rw c.in-ReadFault.is c.write_about.ensures.tells

pub returns-in-FileFault-clause-tells : goal.returns-in-FileFault-clause-tells
returns-in-FileFault-clause-tells g c = rw c.in-FileFault.is c.write_about-in-FileFault.ensures.tells

pub returns-in-OutputFault-clause-tells : goal.returns-in-OutputFault-clause-tells
returns-in-OutputFault-clause-tells g c =
    rw c.in-OutputFault.is
    (rw c.as_bytes-in-OutputFault.ensures.value at c.write_line-in-OutputFault.ensures.tells)
