-- The squares together: the Rust's functions on values are `step` in the domain of the comparison.
use Rattle.rusttable.specs.AsStep.{AsStep}
use Rattle.rusttable.proofs.Leaving.{new_table, settings_table, left_table, receipt_same, piece_asserts}
use Rattle.rusttable.proofs.Flushing.{flushed_square}
use Rattle.rusttable.proofs.Finishing.{finish_square}
use Rattle.rusttable.proofs.RefusedNext.{refused_next_square}
use Rattle.rusttable.proofs.Aborting.{abort_square}
use Rattle.rusttable.proofs.Taking.{take_square}
use Rattle.rusttable.proofs.InFlight.{in_flight_lem}
use Rattle.rusttable.proofs.Writing.{write_square, write_refused_square}
use Rattle.rusttable.proofs.Reading.{read_square, read_refused_square}
use Rattle.rusttable.specs.Domain.{known_handle, write_offset_on_block}

pub as_step : AsStep
unfolding known_handle write_offset_on_block
as_step = record {
  new = new_table;
  write = λ before s l q issued i d. write_square s l q issued i d.handle d.blocks d.numbers;
  write_refused = λ before s l q issued i d t offset count b e pool may raw back flushes d'. write_refused_square s l q issued i d.handle d.blocks t offset count b e pool may raw back flushes d'.numbers;
  read = λ before s l q issued i d. read_square s l q issued i d.handle d.numbers;
  read_refused = λ before s l q issued i d t offset count b e pool may raw back flushes d'. read_refused_square s l q issued i d.handle t offset count b e pool may raw back flushes d'.numbers;
  in_flight_lem = λ s l c i. in_flight_lem s l c i;
  finish = λ before s l t result back flushes i d. finish_square s l t result back flushes i d.numbers;
  refused_next_lem = λ before s l t raw back flushes i d later. refused_next_square s l t raw back flushes i d.numbers later;
  abort = λ before s l t raw back flushes i d first. abort_square s l t raw back flushes i d.numbers first;
  flushed = λ before s l t result issued i d. flushed_square s l t result issued i d.numbers;
  take = λ before s l issued d. take_square s l issued d.numbers;
  settings = settings_table;
  leaves = λ s pool i may. left_table s i pool may;
  receipts = receipt_same;
  asserts = piece_asserts;
}
