-- A read of lawful reads, by the numbers that stand where it starts.
use Prim.Native.Nat.{ℕ, ◌+◌, ◌-◌, ◌*◌, ◌/◌, ◌≤◌, ◌<◌}
use mathlib.Core.List.{List}
use mathlib.Core.Path.{◌≡◌, sym, ap, ap₂, ◌∙◌}
use native.Mathlib.Omega.{arith}
use lib.ListN.{length, take, drop, length-drop}
use Rattle.meaning.specs.Numbers.{run, word}
use Rattle.meaning.specs.Block.{Cell, length_field, first_field, cell_count, cells_part, cell_at, read_of, after_reads}
use Rattle.meaning.specs.Active.{read, end}
use Rattle.layout.specs.declared.reads.Reads.{Reads}
use Rattle.layout.specs.Matrices.{matrix_of}
use Rattle.layout.specs.Places.{read_start, read_from}
use Rattle.layout.proofs.Fields.{length_field_lem, first_field_lem}
use Rattle.layout.proofs.Laws.{Filled, read_start_lem, start_more, read-filled, read_is, read_first, read-end, read-inside, cells_part_lem}
use Rattle.reads.specs.declared.Lying.{Lying}
use Rattle.reads.specs.Lying.{Lies}

module _ (R : Reads) (r : ℕ) (l : r < R.shape.n) where
  abbrev here : List ℕ
  here = after_reads r R.bytes.now

  cells_are : length (read (matrix_of R) r).cells ≡ cell_count R.shape.size here
  cells_are = omega (arith, read-end R.shape R.bytes.now R.lawful r l, read_first R.shape R.bytes.now R.lawful r l)

  -- what stands where it starts
  module _ (at : ℕ) (e : at ≡ read_start R.bytes.now r) where
    from : drop at R.bytes.now ≡ here
    from = ap (λ (k : ℕ). drop k R.bytes.now) e ∙ read_start_lem R.bytes.now r

    pub length_is : length_field here ≡ word R.bytes.now at
    length_is = ap length_field (sym from) ∙ length_field_lem R.bytes.now at

    first_is : first_field here ≡ word R.bytes.now (at + 2)
    first_is = ap first_field (sym from) ∙ first_field_lem R.bytes.now at

    -- there are at least four bytes more
    pub some_bytes : (2 ≤ word R.bytes.now at) × (at + (2 + word R.bytes.now at) ≤ length R.bytes.now)
    some_bytes =
        let h : Filled R.shape.size here = read-filled R.shape R.bytes.now R.lawful r l in
        let w = length_is in
        (omega arith, omega (arith, length-drop at R.bytes.now, ap length from))

    pub lies : at ≤ 65537 * r → (first len count : ℕ) → len < 65536 → first ≡ word R.bytes.now (at + 2) → len ≡ word R.bytes.now at → count ≡ (len - 2) / R.shape.size
        → Lies R r (record { first = first; count = count; start = at + 4; next = at + 2 + len })
    lies a first len count t f w c =
        let h : Filled R.shape.size here = read-filled R.shape R.bytes.now R.lawful r l in
        let n : len ≡ length_field here = w ∙ sym length_is in
        let k : count ≡ cell_count R.shape.size here = c ∙ ap (λ (x : ℕ). (x - 2) / R.shape.size) n in
        let b = read-first-is f in
        record {
          first_is = b;
          count_is = k ∙ sym cells_are;
          start_is = ap (λ (x : ℕ). x + 4) e;
          next_is = omega (arith, start_more R.bytes.now r, ap (word R.bytes.now) e);
          filled = omega (arith, h, ap (λ (x : ℕ). R.shape.size * x) k);
          inside = omega (arith, some_bytes);
          early = omega arith;
          by_last = omega (arith, read-inside R.shape R.bytes.now R.lawful r l, R.lawful.few-columns, cells_are);
        }
      where
        read-first-is : first ≡ word R.bytes.now (at + 2) → first ≡ (read (matrix_of R) r).first
        read-first-is q = q ∙ sym first_is ∙ sym (read_first R.shape R.bytes.now R.lawful r l)

  -- its cells are the bytes from where they start to the next read
  pub read_by : (x : Lying) → Lies R r x → read (matrix_of R) r ≡ read_from R.shape.size x.first x.count (take (x.next - x.start) (drop x.start R.bytes.now))
  unfolding read_of
  read_by x h =
      let f : (read (matrix_of R) r).first ≡ first_field here = read_first R.shape R.bytes.now R.lawful r l in
      let part : take (x.next - x.start) (drop x.start R.bytes.now) ≡ cells_part here =
      ap₂ (λ (n k : ℕ). take n (drop k R.bytes.now)) bytes h.start_is ∙ cells_part_lem R.shape R.bytes.now R.lawful r l in
      read_is R.shape R.bytes.now R.lawful r l
      ∙ ap₂ (λ (i : ℕ) (y : List Cell). record { first = i; cells = y }) (sym (h.first_is ∙ f))
      (ap₂ (λ (n : ℕ) (p : List ℕ). run 0 n (cell_at R.shape.size p)) (sym (h.count_is ∙ cells_are)) (sym part))
    where
      bytes : x.next - x.start ≡ R.shape.size * (end (read (matrix_of R) r) - (read (matrix_of R) r).first)
      bytes = let k : end (read (matrix_of R) r) - (read (matrix_of R) r).first ≡ x.count = omega (arith, h.count_is) in omega (arith, h.filled, ap (λ (c : ℕ). R.shape.size * c) k)
