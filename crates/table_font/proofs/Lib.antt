mod RowsRead
