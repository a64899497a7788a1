-- Readers and writers that wait.
use Rattle.cobs_live.specs.declared.port.Port.{Port}

-- the reader or writer of a port
abbrev pub inner_of : {C F : Type 0} → Port C F → F
inner_of port = port.inner
