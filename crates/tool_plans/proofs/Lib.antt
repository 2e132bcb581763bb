mod Rows
mod RenamingRows
