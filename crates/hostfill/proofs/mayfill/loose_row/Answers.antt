-- `mayfill::loose_row` meets its contract: each arm knows what the row awaits.
use mathlib.Core.Path.{◌≡◌}
use native.Mathlib.Omega.{arith}
use Rattle.arrival.proofs.Raw.{row_fits}
use Rattle.hostfill.proofs.Loose.{other_buffer, no_read, no_piece, piece_row}
use Rattle.hostfill.proofs.mayfill.loose_row.Goals as goal

pub returns-then-row-b : goal.returns-then-row-b
returns-then-row-b c =
    let a = c.args in
    λ n rows free ready owners pool is_open i below found. other_buffer _ a.b a.end a.row c.if-row-b.true

pub returns-in-Piece : goal.returns-in-Piece
returns-in-Piece c =
    let a = c.args in
    let same : a.row.buffer ≡ a.b = omega arith in
    λ n rows free ready owners pool is_open i below found.
    piece_row n rows a.store.now free ready owners pool is_open i below a.row found _ _ c.in-Piece.is a.b a.end same (row_fits a.row _ c.well_formed.1.0) c.read_covers.result c.read_covers.ensures

pub returns-in_default : goal.returns-in_default
returns-in_default c =
    let a = c.args in
    λ n rows free ready owners pool is_open i below found. no_read _ a.b a.end a.row (no_piece a.row.awaits c.in_default.not-Piece)
