-- Demand 2 for one range: the pieces of an accepted page operation act together like one transfer, by the laws of the map.
use Rattle.regionmap.specs.Laws.{MapLaws}
use Rattle.regionmap.proofs.Laws.{map_laws}
use Rattle.posix.specs.Transfer.{Transfers}
use Rattle.posix.proofs.Write.{write}
use Rattle.posix.proofs.Read.{read}

pub transfers_by : MapLaws → Transfers
transfers_by laws = record { write = write laws; read = read laws }

pub transfers : Transfers
transfers = transfers_by map_laws
