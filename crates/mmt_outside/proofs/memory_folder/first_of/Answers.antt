use Rattle.std.proofs.Common.{◌≡◌, suc, ◌+◌, ◌<◌, ◌≤◌, length, get_or, drop, sym, ap, ◌∙◌, arith}
use Rattle.std.proofs.lemmas.List.{length-map}
use Rattle.mmt_outside.specs.Folders.{read_file, read_files, bytes_of}
use Rattle.mmt_outside.proofs.Folders.{item_read, bytes_here, bytes_behind, bytes_past}
use Rattle.mmt_outside.proofs.memory_folder.first_of.Goals as goal

pub returns-then-is_at : goal.returns-then-is_at
returns-then-is_at c =
    let files = c.args.files.now in
    let i = c.loop-file.file-index in
    let item = c.file-item.result in
    let is : item ≡ get_or files i item = c.file-item.is ∙ ap (λ l. get_or l i item) c.as_slice-file-items.ensures in
    let below : i < length (read_files files) = omega (arith, c.loop-file-test.true, ap length c.as_slice-file-items.ensures, length-map files read_file) in
    sym (c.loop-file.invariant ∙ bytes_here (read_files files) i (read_file item) c.args.folder.now c.args.name.now below (item_read read_file files i item is) (sym c.is_at.ensures ∙ c.if-is_at.true))

pub loop-file-preserved : goal.loop-file-preserved
loop-file-preserved c =
    let files = c.args.files.now in
    let i = c.loop-file.file-index in
    let item = c.file-item.result in
    let is : item ≡ get_or files i item = c.file-item.is ∙ ap (λ l. get_or l i item) c.as_slice-file-items.ensures in
    let below : i < length (read_files files) = omega (arith, c.loop-file-test.true, ap length c.as_slice-file-items.ensures, length-map files read_file) in
    let plus : suc i ≡ i + 1 = omega arith in
    c.loop-file.invariant ∙ bytes_behind (read_files files) i (read_file item) c.args.folder.now c.args.name.now below (item_read read_file files i item is) (sym c.is_at.ensures ∙ c.if-is_at.false)
    ∙ ap (λ j. bytes_of (drop j (read_files files)) c.args.folder.now c.args.name.now) plus

pub returns : goal.returns
returns c =
    let files = c.args.files.now in
    let i = c.loop-file.file-index in
    let past : length (read_files files) ≤ i = omega (arith, c.loop-file-test.false, ap length c.as_slice-file-items.ensures, length-map files read_file) in
    bytes_past (read_files files) i c.args.folder.now c.args.name.now past ∙ sym c.loop-file.invariant
