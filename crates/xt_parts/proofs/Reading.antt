-- a part is read as it was written
use Rattle.std.proofs.Common.{◌≡◌, ◌<◌, ◌≤◌, ◌^◌, ◌+◌, ◌-◌, ℕ, true, List, Some, length, refl, ap, ◌∙◌, arith, eq-eqb}
use Rattle.std.proofs.lemmas.Nat.{from_be_bytes-to_be_bytes_4, from_be_bytes-to_be_bytes_8}
use Rattle.std.proofs.lemmas.Bool.{le-leb, lt-ltb, and_from}
use Rattle.xt_base.specs.declared.TheConstants.{FRAME}
use Rattle.xt_parts.specs.declared.TheConstants.{HEADER}
use Rattle.xt_parts.specs.declared.part.Header.{Header}
use Rattle.xt_parts.specs.Part.{parts_in, bytes_in, part_bytes, word_at, header_of, is_cut, is_part, read_part}

-- the numbers of a header fit their fields
pub record FieldsFit (header : Header) : Type 0 where
  pub sender : header.id.sender.0 < 2 ^ 32
  pub boot : header.id.boot.0 < 2 ^ 64
  pub number : header.id.number < 2 ^ 64
  pub size : header.size < 2 ^ 32

module _ (header : Header) (payload : List ℕ) (fit : FieldsFit header) where
  size_reads : word_at (part_bytes header payload) 23 ≡ header.size
  size_reads = from_be_bytes-to_be_bytes_4 header.size fit.size

  header_reads : header_of (part_bytes header payload) ≡ header
  unfolding header_of
  header_reads =
      rw (
        from_be_bytes-to_be_bytes_4 header.id.sender.0 fit.sender,
        from_be_bytes-to_be_bytes_8 header.id.boot.0 fit.boot,
        from_be_bytes-to_be_bytes_8 header.id.number fit.number,
        from_be_bytes-to_be_bytes_4 header.size fit.size,
      ) refl

  length_reads : length (part_bytes header payload) ≡ HEADER + length payload
  length_reads = omega arith

  module _ (some : 1 ≤ header.size) (limit : header.size ≤ FRAME) (below : header.index < parts_in header.size)
      (whole : length payload ≡ bytes_in header.size header.index) where
    cut_reads : is_cut (part_bytes header payload) header.size ≡ true
    cut_reads =
        let behind : length (part_bytes header payload) - HEADER ≡ bytes_in header.size header.index = omega (arith, length_reads) in
        and_from _ _
        (and_from _ _
        (and_from _ _ (and_from _ _ (le-leb 1 header.size some) (le-leb header.size FRAME limit)) (eq-eqb (parts_in header.size) (parts_in header.size) refl))
        (lt-ltb header.index (parts_in header.size) below))
        (eq-eqb (length (part_bytes header payload) - HEADER) (bytes_in header.size header.index) behind)

    part_reads : is_part (part_bytes header payload) ≡ true
    unfolding is_part
    part_reads =
        let long : HEADER ≤ length (part_bytes header payload) = omega (arith, length_reads) in
        and_from _ _ (and_from _ _ (le-leb HEADER (length (part_bytes header payload)) long) (eq-eqb 1 1 refl))
        (ap (is_cut (part_bytes header payload)) size_reads ∙ cut_reads)

    -- the header and the payload come back
    pub reads : read_part (part_bytes header payload) ≡ Some (header, payload)
    reads = rw (part_reads, header_reads) refl
