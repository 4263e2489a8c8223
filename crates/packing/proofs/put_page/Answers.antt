-- `put_page` meets its contract: seventeen bytes in three parts.
-- Assumes nothing.
use Rattle.packing.proofs.Pages.{page_put}
use Rattle.packing.proofs.put_page.Goals as goal

pub returns : goal.returns
returns c =
    let a = c.args in
    page_put a.f a.fields.now c.if-fields-ne-PAGE_FIELDS.false c.repairs.ensures c.place_bytes.ensures c.place_bytes-2.ensures c.put_fields.ensures c.copy.ensures c.copy-2.ensures
